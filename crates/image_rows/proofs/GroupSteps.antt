-- Groups that are read one after the other.
use Rattle.std.proofs.Common.{◌≡◌, ℕ, zero, suc, ◌+◌, ◌-◌, ◌<◌, length, List, [], ◌∷◌, drop, Option, Some, None, refl, sym, ap, ◌∙◌, arith}
use Rattle.std.proofs.lemmas.Bool.{false≢true}
use Rattle.std.specs.Prelude.{◌==◌, option_map, IsSome, slice_get}
use Rattle.command_bytes.specs.Fields.{◌>>=◌}
use Rattle.command_bytes.specs.Reading.{Read}
use Rattle.image_rows.specs.Rows.{Group}
use Rattle.image_rows.specs.RowReading.{group_at, groups_at}
use Rattle.image_rows.specs.Inside.GroupViews.{listed, groups_from}

-- the bytes after so many groups
abbrev pub after_groups : ℕ → List ℕ → Option (List ℕ)
after_groups n bytes = option_map (λ x. x.1) (groups_at n bytes)

more : Group → List Group × List ℕ → Read (List Group)
more g gs = Some (g ∷ gs.0, gs.1)

next : ℕ → Group × List ℕ → Read (List Group)
next n g = groups_at n g.1 >>= more g.0

one_on : (n : ℕ) (rest : List ℕ) (g : Group) (after : List ℕ) → group_at rest ≡ Some (g, after) → after_groups (suc n) rest ≡ after_groups n after
unfolding next more
one_on n rest g after is = ap (λ (r : Read Group). option_map (λ x. x.1) (r >>= next n)) is ∙ by (groups_at n after)
  where
    by : (r : Read (List Group)) → option_map (λ x. x.1) (r >>= more g) ≡ option_map (λ x. x.1) r
    by None = refl
    by (Some gs) = refl

none_on : (n : ℕ) (rest : List ℕ) → group_at rest ≡ None → after_groups (suc n) rest ≡ None
unfolding next more
none_on n rest is = ap (λ (r : Read Group). option_map (λ x. x.1) (r >>= next n)) is

pub passed_one : (count i : ℕ) (bytes rest : List ℕ) (g : Group) (after : List ℕ) → i < count → Some (g, after) ≡ group_at rest →
    after_groups count bytes ≡ after_groups (count - i) rest → after_groups count bytes ≡ after_groups (count - (i + 1)) after
passed_one count i bytes rest g after lt is was =
    let left : count - i ≡ suc (count - (i + 1)) = omega arith in
    was ∙ ap (λ (n : ℕ). after_groups n rest) left ∙ one_on (count - (i + 1)) rest g after (sym is)

pub stopped : (count i : ℕ) (bytes rest : List ℕ) → i < count → None ≡ group_at rest → after_groups count bytes ≡ after_groups (count - i) rest → None ≡ after_groups count bytes
stopped count i bytes rest lt is was =
    let left : count - i ≡ suc (count - (i + 1)) = omega arith in
    sym (was ∙ ap (λ (n : ℕ). after_groups n rest) left ∙ none_on (count - (i + 1)) rest (sym is))

pub all_passed : (count i : ℕ) (bytes rest : List ℕ) → count - i ≡ 0 → after_groups count bytes ≡ after_groups (count - i) rest → Some rest ≡ after_groups count bytes
all_passed count i bytes rest e was = sym (was ∙ ap (λ (n : ℕ). after_groups n rest) e)

-- there are groups where the bytes after them are there
pub are_there : (n : ℕ) (bytes rest : List ℕ) → Some rest ≡ after_groups n bytes → IsSome (groups_at n bytes)
are_there n bytes rest e = by (groups_at n bytes) e
  where
    by : (r : Read (List Group)) → Some rest ≡ option_map (λ x. x.1) r → IsSome r
    by None e = absurd cc
    by (Some x) e = refl

pub none_there : (n : ℕ) (bytes : List ℕ) → None ≡ after_groups n bytes → groups_at n bytes ≡ None
none_there n bytes e = by (groups_at n bytes) e
  where
    by : (r : Read (List Group)) → None ≡ option_map (λ x. x.1) r → r ≡ None
    by None e = refl
    by (Some x) e = absurd cc

pub list_there : (n : ℕ) (bytes : List ℕ) → IsSome (groups_at n bytes) → Some (groups_from n bytes) ≡ option_map (λ x. x.0) (groups_at n bytes)
unfolding groups_from
list_there n bytes some = by (groups_at n bytes) some
  where
    by : (r : Read (List Group)) → IsSome r → Some (listed r) ≡ option_map (λ x. x.0) r
    by None some = absurd (false≢true some)
    by (Some x) some = refl

-- ---- the first group

pub none_left : (count : ℕ) (bytes : List ℕ) (list : List Group) → groups_from count bytes ≡ list → count ≡ 0 → list ≡ []
unfolding groups_from
none_left count bytes list is e = sym is ∙ ap (λ (n : ℕ). listed (groups_at n bytes)) e

pub no_first : {A : Type 0} (list : List A) → list ≡ [] → (None ≡ slice_get list 0) × (list ≡ drop 1 list)
no_first list e = rw e (refl, refl)

record IsFirst (n : ℕ) (bytes : List ℕ) (g : Group) (after : List ℕ) : Type 0 where
  pub list : groups_from (suc n) bytes ≡ g ∷ groups_from n after
  pub there : IsSome (groups_at n after)

first_is : (n : ℕ) (bytes : List ℕ) (g : Group) (after : List ℕ) → group_at bytes ≡ Some (g, after) → IsSome (groups_at (suc n) bytes) → IsFirst n bytes g after
unfolding next more groups_from
first_is n bytes g after is some = by (groups_at n after) refl (rw is at some)
  where
    by : (r : Read (List Group)) → groups_at n after ≡ r → IsSome (groups_at n after >>= more g) → IsFirst n bytes g after
    by None e some = absurd (false≢true (rw e at some))
    by (Some gs) e some = record { list = rw (is, e) refl; there = rw e refl }

pub first_taken : (count : ℕ) (bytes : List ℕ) (list : List Group) (g : Group) (after : List ℕ) → groups_from count bytes ≡ list →
    IsSome (groups_at count bytes) → (count ≡ 0 → ⊥) → Some (g, after) ≡ group_at bytes
    → (Some g ≡ slice_get list 0) × (groups_from (count - 1) after ≡ drop 1 list) × IsSome (groups_at (count - 1) after)
first_taken zero bytes list g after is some there e = absurd (there refl)
first_taken (suc n) bytes list g after is some there e =
    let first = first_is n bytes g after (sym e) some in
    let whole : list ≡ g ∷ groups_from n after = sym is ∙ first.list in
    let left : suc n - 1 ≡ n = omega arith in
    rw (whole, left) (refl, refl, first.there)

pub first_there : (count : ℕ) (bytes : List ℕ) → IsSome (groups_at count bytes) → (count ≡ 0 → ⊥) → None ≡ group_at bytes → ⊥
unfolding next
first_there zero bytes some there e = there refl
first_there (suc n) bytes some there e = false≢true (rw (← e) at some)

-- there are as many groups as stated
count_of : (count : ℕ) (bytes : List ℕ) → IsSome (groups_at count bytes) → length (groups_from count bytes) ≡ count
unfolding groups_from
count_of zero bytes some = refl
count_of (suc n) bytes some =
    elim (group_at bytes) as (λ r. group_at bytes ≡ r → length (groups_from (suc n) bytes) ≡ suc n) [
      | None ↦ λ e. absurd (first_there (suc n) bytes some (λ none. omega (arith, none)) (sym e))
      | Some x ↦ λ e.
          let first = first_is n bytes x.0 x.1 e some in
          ap length first.list ∙ ap suc (count_of n x.1 first.there)
    ] refl

pub is_none : (count : ℕ) (bytes : List ℕ) (list : List Group) → groups_from count bytes ≡ list → IsSome (groups_at count bytes) → (count == 0) ≡ (length list == 0)
is_none count bytes list is some = ap (λ n. n == 0) (sym (count_of count bytes some) ∙ ap length is)
