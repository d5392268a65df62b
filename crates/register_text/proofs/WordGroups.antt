-- The groups of a radio, read one after another.
use Rattle.std.proofs.Common.{◌≡◌, ℕ, ◌+◌, ◌*◌, ◌/◌, ◌<◌, ◌≤◌, List, [], ◌∷◌, ◌++◌, length, take, drop, Option, Some, None, refl, sym, ap, ◌∙◌, arith, append_assoc}
use Rattle.std.specs.Prelude.{map as each, option_map}
use Rattle.std.proofs.lemmas.List.{append-nil, drop-drop, length-drop, map-append}
use Rattle.base.proofs.Options.{some_is}
use Rattle.group_attach.specs.declared.attachment.Attachment.{Attachment}
use Rattle.command_bytes.specs.Fields.{◌>>=◌}
use Rattle.command_bytes.proofs.Steps.{bind_some}
use Rattle.image_rows.specs.Rows.{Group}
use Rattle.image_rows.specs.RowText.{group_in as group_of, sector_of}
use Rattle.image_rows.proofs.Groups.{length_each}
use Rattle.register_text.specs.Reading.{group_in, groups_in, one_group_in, radio_in}

-- a group and the others
one_first : {X : Type 0} (v : X → List ℕ) (rest prefix back : List X) → 3 ≤ length rest → prefix ≡ take 3 rest → back ≡ drop 3 rest
    → groups_in (each v rest) ≡ (one_group_in (each v prefix) >>= λ g. groups_in (each v back) >>= λ gs. Some (g ∷ gs))
one_first v [] prefix back long f b = absurd (omega (arith, long))
one_first v (x ∷ []) prefix back long f b = absurd (omega (arith, long))
one_first v (x ∷ y ∷ []) prefix back long f b = absurd (omega (arith, long))
one_first v (x ∷ y ∷ z ∷ more) prefix back long f b = rw (f, b) refl

-- the groups so far, and those that are left
abbrev pub with_left : {X : Type 0} → (X → List ℕ) → List Attachment → List X → Option (List Group)
with_left v items left = option_map (λ more. each group_of items ++ more) (groups_in (each v left))

one_read : (out : List Group) (a : Group) (g : Option Group) (left : Option (List Group)) → Some a ≡ g
    → option_map (λ more. (out ++ (a ∷ [])) ++ more) left ≡ option_map (λ more. out ++ more) (g >>= λ x. left >>= λ y. Some (x ∷ y))
one_read out a None left e = absurd cc
one_read out a (Some x) None e = refl
one_read out a (Some x) (Some y) e = let same : a ≡ x = cc in ap Some (append_assoc out (a ∷ []) y) ∙ ap (λ (g : Group). Some (out ++ (g ∷ y))) same

none_left : (g : Option Group) (left : Option (List Group)) → None ≡ g → None ≡ (g >>= λ x. left >>= λ y. Some (x ∷ y))
none_left None left e = refl
none_left (Some x) left e = absurd cc

few_left : {X : Type 0} (v : X → List ℕ) (rest : List X) → length rest < 3 → groups_in (each v rest) ≡ Some []
few_left v [] few = refl
few_left v (x ∷ []) few = refl
few_left v (x ∷ y ∷ []) few = refl
few_left v (x ∷ y ∷ z ∷ more) few = absurd (omega (arith, few))

module _ {X : Type 0} (v : X → List ℕ) (words : List X) (at : ℕ) where
  three_left : at < length words / 3 → 3 ≤ length (drop (3 * at) words)
  three_left more = let n = length-drop (3 * at) words in omega (arith, more, n)

  after_three : drop (3 * (at + 1)) words ≡ drop 3 (drop (3 * at) words)
  after_three = let e : 3 * at + 3 ≡ 3 * (at + 1) = omega arith in ap (λ (n : ℕ). drop n words) (sym e) ∙ sym (drop-drop 3 (3 * at) words)

  -- the group at a place was read
  pub read_at : (items new : List Attachment) (a : Attachment) (prefix : List X) → new ≡ items ++ (a ∷ []) →
      Some (group_of a) ≡ one_group_in (each v prefix) → prefix ≡ take 3 (drop (3 * at) words) → at < length words / 3
      → with_left v new (drop (3 * (at + 1)) words) ≡ with_left v items (drop (3 * at) words)
  read_at items new a prefix is one taken more =
      let left = groups_in (each v (drop (3 * (at + 1)) words)) in
      ap (λ (l : List Group). option_map (λ more. l ++ more) left) (ap (each group_of) is ∙ map-append group_of items (a ∷ []))
      ∙ one_read (each group_of items) (group_of a) (one_group_in (each v prefix)) left one
      ∙ ap (option_map (λ more. each group_of items ++ more)) (sym (one_first v (drop (3 * at) words) prefix (drop (3 * (at + 1)) words) (three_left more) taken after_three))

  -- the words at a place are no group
  pub stopped_at : (items : List Attachment) (prefix : List X) → None ≡ one_group_in (each v prefix) → prefix ≡ take 3 (drop (3 * at) words) →
      at < length words / 3 → None ≡ with_left v items (drop (3 * at) words)
  stopped_at items prefix none taken more =
      ap (option_map (λ more. each group_of items ++ more)) (
      none_left (one_group_in (each v prefix)) (groups_in (each v (drop (3 * (at + 1)) words))) none
      ∙ sym (one_first v (drop (3 * at) words) prefix (drop (3 * (at + 1)) words) (three_left more) taken after_three)
      )

  -- all were read
  pub all_at : (items : List Attachment) → length words / 3 ≤ at → Some (each group_of items) ≡ with_left v items (drop (3 * at) words)
  all_at items done =
      let n = length-drop (3 * at) words in
      ap Some (sym (append-nil (each group_of items))) ∙ ap (option_map (λ more. each group_of items ++ more)) (sym (few_left v (drop (3 * at) words) (omega (arith, done, n))))

-- ---- how many there are

groups_few : (ws : List (List ℕ)) (gs : List Group) → groups_in ws ≡ Some gs → 3 * length gs ≤ length ws
groups_few [] gs e = let n = ap length (some_is [] gs e) in omega (arith, n)
groups_few (a ∷ []) gs e = let n = ap length (some_is [] gs e) in omega (arith, n)
groups_few (a ∷ b ∷ []) gs e = let n = ap length (some_is [] gs e) in omega (arith, n)
groups_few (a ∷ b ∷ c ∷ ws) gs e =
    let one = bind_some (group_in a b c) (λ g. groups_in ws >>= λ gs. Some (g ∷ gs)) gs e in
    let more = bind_some (groups_in ws) (λ gs. Some (one.0 ∷ gs)) gs one.2 in
    let n = ap length (some_is (one.0 ∷ more.0) gs more.2) in
    let few = groups_few ws more.0 more.1 in
    omega (arith, n, few)

-- a radio has no more groups than a third of its words
pub few_groups : {X : Type 0} (v : X → List ℕ) (words : List X) (items : List Attachment) → Some (each group_of items) ≡ groups_in (each v words) → length words ≤ 96 → length items ≤ 32
few_groups v words items e few =
    let most = groups_few (each v words) (each group_of items) (sym e) in
    let n = length_each group_of items in
    let m = length_each v words in
    omega (arith, most, n, m, few)

-- fewer than six words are no radio
pub short_radio : {X : Type 0} (v : X → List ℕ) (words : List X) → length words < 6 → None ≡ option_map sector_of (radio_in (each v words))
short_radio v [] few = refl
short_radio v (a ∷ []) few = refl
short_radio v (a ∷ b ∷ []) few = refl
short_radio v (a ∷ b ∷ c ∷ []) few = refl
short_radio v (a ∷ b ∷ c ∷ d ∷ []) few = refl
short_radio v (a ∷ b ∷ c ∷ d ∷ e ∷ []) few = refl
short_radio v (a ∷ b ∷ c ∷ d ∷ e ∷ f ∷ more) few = absurd (omega (arith, few))
