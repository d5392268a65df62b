-- The groups of a radio, printed one after another.
use Rattle.std.proofs.Common.{◌≡◌, ℕ, ◌<◌, List, [], ◌∷◌, ◌++◌, length, take, drop, Some, None, refl, sym, ap, ◌∙◌, arith, append_assoc}
use Rattle.std.specs.Prelude.{slice_get}
use Rattle.std.specs.List.{flat_map}
use Rattle.std.proofs.lemmas.List.{append-nil, take-append-drop}
use Rattle.std.proofs.lemmas.List.Concat.{flat_map-append}
use Rattle.std.proofs.Math.Seq.{take-append_seam}
use Rattle.identity.specs.NumberText.{IsPrefixOf}
use Rattle.listings.proofs.Listed.{prefix_with_more}
use Rattle.image_rows.specs.Rows.{Group}
use Rattle.register_text.specs.Lines.{group_words, spaced}

-- the words of groups, each after a space
abbrev pub groups_text : List Group → List ℕ
groups_text groups = spaced (flat_map group_words groups)

pub no_group : (gs : List Group) → None ≡ slice_get gs 0 → gs ≡ []
no_group [] e = refl
no_group (g ∷ gs) e = absurd cc

pub fewer : (gs hs : List Group) (g : Group) → Some g ≡ slice_get gs 0 → hs ≡ drop 1 gs → length hs < length gs
fewer [] hs g e is = absurd cc
fewer (x ∷ xs) hs g e is = let same : length hs ≡ length xs = ap length is in omega (arith, same)

first_group : (gs : List Group) (g : Group) → Some g ≡ slice_get gs 0 → groups_text gs ≡ spaced (group_words g) ++ groups_text (drop 1 gs)
first_group [] g e = absurd cc
first_group (x ∷ xs) g e =
    let same : g ≡ x = cc in
    flat_map-append (λ (w : List ℕ). 32 ∷ w) (group_words x) (flat_map group_words xs) ∙ ap (λ (y : Group). spaced (group_words y) ++ groups_text xs) (sym same)

-- one group more is printed
pub one_more : (out new : List ℕ) (gs hs : List Group) (g : Group) → new ≡ out ++ spaced (group_words g) → Some g ≡ slice_get gs 0 → hs ≡ drop 1 gs → new ++ groups_text hs ≡ out ++ groups_text gs
one_more out new gs hs g put e is =
    ap (λ (l : List ℕ). l ++ groups_text hs) put ∙ append_assoc out (spaced (group_words g)) (groups_text hs)
    ∙ ap (λ (l : List Group). out ++ (spaced (group_words g) ++ groups_text l)) is ∙ ap (λ (l : List ℕ). out ++ l) (sym (first_group gs g e))

-- all are printed
pub all_printed : (old out : List ℕ) (gs hs : List Group) → out ++ groups_text hs ≡ old ++ groups_text gs → None ≡ slice_get hs 0 → out ≡ old ++ groups_text gs
all_printed old out gs hs so_far none = sym (append-nil out) ∙ ap (λ (l : List Group). out ++ groups_text l) (sym (no_group hs none)) ∙ so_far

-- what was there first is there still
pub prefix_kept : (old now new : List ℕ) → IsPrefixOf old now → IsPrefixOf now new → IsPrefixOf old new
prefix_kept old now new before prefix = prefix_with_more old (drop (length old) now) now new (sym (take-append-drop (length old) now) ∙ ap (λ (l : List ℕ). l ++ drop (length old) now) before) prefix

pub prefix_more : (now more new : List ℕ) → new ≡ now ++ more → IsPrefixOf now new
prefix_more now more new put = ap (λ (l : List ℕ). take (length now) l) put ∙ take-append_seam now more

pub prefix_itself : (now : List ℕ) → IsPrefixOf now now
prefix_itself now = prefix_more now [] now (sym (append-nil now))
