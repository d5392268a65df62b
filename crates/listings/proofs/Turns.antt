-- Texts that are put one after another, each after the one before.
use Rattle.std.proofs.Common.{◌≡◌, ℕ, ◌+◌, ◌<◌, ◌≤◌, List, [], ◌∷◌, ◌++◌, length, sym, ◌∙◌, ap, arith, append_assoc, length-append}
use Rattle.std.specs.List.{flat_map}
use Rattle.std.proofs.lemmas.List.{append-nil}
use Rattle.std.proofs.lemmas.List.Concat.{flat_map-append}

module _ {T : Type 0} (text : T → List ℕ) where
  -- the text of one more was put
  pub one_more : (old now new : List ℕ) (done : List T) (x : T) → now ≡ old ++ flat_map text done → new ≡ now ++ text x → new ≡ old ++ flat_map text (done ++ x ∷ [])
  one_more old now new done x put more =
      let with_it : flat_map text (done ++ x ∷ []) ≡ flat_map text done ++ text x = flat_map-append text done (x ∷ []) ∙ ap (λ l. flat_map text done ++ l) (append-nil (text x)) in
      more ∙ ap (λ l. l ++ text x) put ∙ append_assoc old (flat_map text done) (text x) ∙ ap (λ l. old ++ l) (sym with_it)

  -- all texts were put
  pub all_put : (old now : List ℕ) (done rest all : List T) → now ≡ old ++ flat_map text done → rest ≡ [] → done ++ rest ≡ all → now ≡ old ++ flat_map text all
  all_put old now done rest all put none is =
      put ∙ ap (λ l. old ++ flat_map text l) (sym (append-nil done) ∙ ap (λ l. done ++ l) (sym none) ∙ is)

  -- there was no room for one of the texts, and so none for all
  pub none_for_all : (old now : List ℕ) (done rest left all : List T) (x : T) (had has room rooms : ℕ) → now ≡ old ++ flat_map text done →
      left ≡ x ∷ rest → done ++ left ≡ all → had ≡ length old → has ≡ length now → room ≤ rooms
      → rooms < has + length (text x) → room < had + length (flat_map text all)
  none_for_all old now done rest left all x had has room rooms put next is length_old length_now grown full =
      let whole : length (flat_map text all) ≡ length (flat_map text done) + (length (text x) + length (flat_map text rest)) =
      ap (λ l. length (flat_map text l)) (sym is ∙ ap (λ l. done ++ l) next) ∙ ap length (flat_map-append text done (x ∷ rest))
      ∙ length-append (flat_map text done) (text x ++ flat_map text rest) ∙ ap (λ n. length (flat_map text done) + n) (length-append (text x) (flat_map text rest)) in
      let so_far : length now ≡ length old + length (flat_map text done) = ap length put ∙ length-append old (flat_map text done) in
      omega (arith, whole, so_far, length_old, length_now, grown, full)

-- a head and what comes after it
pub after_head : (old now new words number lines : List ℕ) → now ≡ old ++ (words ++ number) → new ≡ now ++ lines → new ≡ old ++ (words ++ (number ++ lines))
after_head old now new words number lines head put =
    put ∙ ap (λ l. l ++ lines) head ∙ append_assoc old (words ++ number) lines ∙ ap (λ l. old ++ l) (append_assoc words number lines)

whole_length : (words number lines : List ℕ) → length (words ++ (number ++ lines)) ≡ length (words ++ number) + length lines
whole_length words number lines = ap length (sym (append_assoc words number lines)) ∙ length-append (words ++ number) lines

-- there was no room for the head
pub no_head : (words number lines : List ℕ) (had room : ℕ) → room < had + length (words ++ number) → room < had + length (words ++ (number ++ lines))
no_head words number lines had room full = let whole = whole_length words number lines in omega (arith, whole, full)
