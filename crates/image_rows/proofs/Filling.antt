-- A radio's groups taken into a list, one after another.
use Rattle.std.proofs.Common.{◌≡◌, ℕ, zero, suc, ◌+◌, ◌<◌, ◌≤◌, Bool, true, false, List, [], ◌∷◌, ◌++◌, length, take, drop, length-drop, Option, Some, None, refl, sym, ap, ◌∙◌, arith}
use Rattle.std.specs.Prelude.{◌&&◌, map as each, nat_le, option_map, slice_get, slice_set}
use Rattle.std.specs.Ordering.{nat_cmp, is_lt}
use Rattle.std.specs.List.{All}
use Rattle.std.specs.Option.{is_some}
use Rattle.std.proofs.lemmas.Bool.{le-leb}
use Rattle.std.proofs.lemmas.List.{append-nil, take-append-drop, take_more_set}
use Rattle.std.proofs.lemmas.List.Elements.{All-nil, All-cons}
use Rattle.group_attach.specs.Applied.{most_of_radio}
use Rattle.std.specs.FinMap.Entries.{below_all, is_sorted}
use Rattle.prefix_tree.specs.Following.{is_after}
use Rattle.group_attach.specs.declared.attachment.Attachment.{Attachment}
use Rattle.image_rows.specs.Rows.{Group}
use Rattle.image_rows.specs.RowText.{group_in}
use Rattle.image_rows.specs.Loading.{attachment_in}
use Rattle.std.proofs.lemmas.Bool.Decides.{nat_tests}
use Rattle.base.proofs.Bools.{and_false, first_true as left, second_true, and_is_true}
use Rattle.image_rows.proofs.Only.{each_push}

more_of : {X : Type 0} (xs : List X) (n : ℕ) (x : X) → Some x ≡ slice_get (drop n xs) 0 → take (n + 1) xs ≡ take n xs ++ x ∷ []
more_of [] zero x e = absurd cc
more_of [] (suc n) x e = absurd cc
more_of {X} (y ∷ xs) zero x e = let same : x ≡ y = cc in ap (λ (z : X). z ∷ []) (sym same)
more_of {X} (y ∷ xs) (suc n) x e = let k : suc n + 1 ≡ suc (n + 1) = omega arith in ap (λ m. take m (y ∷ xs)) k ∙ ap (λ (l : List X). y ∷ l) (more_of xs n x e)

nothing_at : {X : Type 0} (xs : List X) → None ≡ slice_get xs 0 → xs ≡ []
nothing_at [] e = refl
nothing_at (x ∷ xs) e = absurd cc

same_attachment : (a : Attachment) (itsi : ℕ) → a.itsi ≡ itsi → a ≡ attachment_in itsi (group_in a)
same_attachment a itsi own = λ i. record { itsi = own i; gtsi = a.gtsi; class = a.class; lifetime = a.lifetime }

pub put_one : (list : List Attachment) (gs : List Group) (itsi n : ℕ) (a : Attachment) → n < length list →
    take n list ≡ each (attachment_in itsi) (take n gs) → Some (group_in a) ≡ slice_get (drop n gs) 0 → a.itsi ≡ itsi
    → take (n + 1) (slice_set list n a) ≡ each (attachment_in itsi) (take (n + 1) gs)
put_one list gs itsi n a lt was first own =
    take_more_set list n a lt
    ∙ (λ i. was i ++ same_attachment a itsi own i ∷ [])
    ∙ sym (ap (each (attachment_in itsi)) (more_of gs n (group_in a) first) ∙ each_push (attachment_in itsi) (take n gs) (group_in a))

pub none_left : {X : Type 0} (xs : List X) (n : ℕ) → None ≡ slice_get (drop n xs) 0 → (drop 1 (drop n xs) ≡ drop n xs) × (drop 1 (drop n xs) ≡ [])
none_left {X} xs n e = let is = nothing_at (drop n xs) e in (ap (drop 1) is ∙ sym is, ap (drop 1) is)

-- ---- in order

abbrev pub rising : Option ℕ → List Group → Bool
rising last [] = true
rising last (g ∷ gs) = is_after nat_cmp (λ n. n) last g.0 && rising (Some g.0) gs

less_through : (a b c : ℕ) → is_lt (nat_cmp a b) ≡ true → is_lt (nat_cmp b c) ≡ true → is_lt (nat_cmp a c) ≡ true
less_through a b c e f = grind (arith, nat_tests)

below_more : (a b : ℕ) (gs : List Group) → is_lt (nat_cmp a b) ≡ true → below_all nat_cmp b gs ≡ true → below_all nat_cmp a gs ≡ true
below_more a b [] e f = refl
below_more a b (g ∷ gs) e f = and_is_true _ _ (less_through a b g.0 e (left _ _ f)) (below_more a b gs e (second_true (is_lt (nat_cmp b g.0)) _ f))

sorted_from : (a : ℕ) (gs : List Group) → rising (Some a) gs ≡ (below_all nat_cmp a gs && is_sorted nat_cmp gs)
sorted_from a [] = refl
sorted_from a (g ∷ gs) = ap (λ (b : Bool). is_lt (nat_cmp a g.0) && b) (sorted_from g.0 gs) ∙ by (is_lt (nat_cmp a g.0)) refl
  where
    by : (b : Bool) → is_lt (nat_cmp a g.0) ≡ b → (b && (below_all nat_cmp g.0 gs && is_sorted nat_cmp gs)) ≡ ((b && below_all nat_cmp a gs) && (below_all nat_cmp g.0 gs && is_sorted nat_cmp gs))
    by false e = refl
    by true e = through (below_all nat_cmp g.0 gs) refl
      where
        through : (c : Bool) → below_all nat_cmp g.0 gs ≡ c → (c && is_sorted nat_cmp gs) ≡ (below_all nat_cmp a gs && (c && is_sorted nat_cmp gs))
        through false f = sym (and_false (below_all nat_cmp a gs))
        through true f = ap (λ (d : Bool). d && is_sorted nat_cmp gs) (sym (below_more a g.0 gs e f))

pub rises : (gs : List Group) → rising None gs ≡ is_sorted nat_cmp gs
rises [] = refl
rises (g ∷ gs) = sorted_from g.0 gs

pub all_own : (itsi : ℕ) (gs : List Group) → All (λ a. a.itsi ≡ itsi) (each (attachment_in itsi) gs)
all_own itsi [] = All-nil (λ a. a.itsi ≡ itsi)
all_own itsi (g ∷ gs) = All-cons (λ a. a.itsi ≡ itsi) (attachment_in itsi g) (each (attachment_in itsi) gs) refl (all_own itsi gs)

groups_back : (itsi : ℕ) (gs : List Group) → each group_in (each (attachment_in itsi) gs) ≡ gs
groups_back itsi [] = refl
groups_back itsi (g ∷ gs) = ap (λ (l : List Group). g ∷ l) (groups_back itsi gs)

-- all groups are taken where none is left
pub record IsAll (gs : List Group) (n : ℕ) : Type 0 where
  pub all : take n gs ≡ gs
  pub few : length gs ≤ n

pub is_all : (gs left : List Group) (n : ℕ) (r : Option Attachment) → is_some r ≡ false → option_map group_in r ≡ slice_get left 0 → left ≡ drop n gs → IsAll gs n
is_all gs left n (Some a) none first is = absurd cc
is_all gs left n None none first is =
    let nothing : drop n gs ≡ [] = sym is ∙ nothing_at left first in
    let short = length-drop n gs in
    let zeros = ap length nothing in
    record { all = sym (append-nil (take n gs)) ∙ ap (λ (l : List Group). take n gs ++ l) (sym nothing) ∙ take-append-drop n gs; few = omega (arith, short, zeros) }

pub stated_order : (list : List Attachment) (itsi : ℕ) (gs : List Group) (n : ℕ) (r : Bool) → IsAll gs n → n ≤ most_of_radio →
    take n list ≡ each (attachment_in itsi) (take n gs) → r ≡ is_sorted nat_cmp (each group_in (take n list)) →
    r ≡ (nat_le (length gs) most_of_radio && is_sorted nat_cmp gs)
stated_order list itsi gs n r all few taken is =
    let short = all.few in
    let le : nat_le (length gs) most_of_radio ≡ true = le-leb _ _ (omega (arith, short, few)) in
    is ∙ ap (is_sorted nat_cmp) (ap (each group_in) (taken ∙ ap (each (attachment_in itsi)) all.all) ∙ groups_back itsi gs) ∙ ap (λ (b : Bool). b && is_sorted nat_cmp gs) (sym le)
