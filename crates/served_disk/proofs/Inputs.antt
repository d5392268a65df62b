-- The names of IN of the stations that are not left out.
use Rattle.std.proofs.Common.{◌≡◌, ◌∙◌, ◌+◌, ◌<◌, ◌++◌, ◌∷◌, [], ℕ, Bool, true, false, cond, List, length, map, take, get_or, refl, ap, sym}
use Rattle.std.specs.Prelude.{filter, not}
use Rattle.std.specs.Borrow.{Bor}
use Rattle.std.proofs.lemmas.List.{take_more}
use Rattle.served_disk.specs.Files.{inputs_in, is_left_out}

abbrev Named : Type 0
Named = Bor (List ℕ) × Bor (List ℕ)

abbrev input_of : Named → List ℕ
input_of pair = pair.0.now

abbrev is_served : Named → Bool
is_served pair = not (is_left_out pair.0.now pair.1.now)

joined : (xs ys : List Named) → inputs_in (xs ++ ys) ≡ inputs_in xs ++ inputs_in ys
joined [] ys = refl
joined (x ∷ xs) ys = by (is_served x) (joined xs ys)
  where
    by : (b : Bool) → inputs_in (xs ++ ys) ≡ inputs_in xs ++ inputs_in ys
        → map input_of (cond b (x ∷ filter is_served (xs ++ ys)) (filter is_served (xs ++ ys)))
        ≡ map input_of (cond b (x ∷ filter is_served xs) (filter is_served xs)) ++ inputs_in ys
    by true h = ap (λ l. x.0.now ∷ l) h
    by false h = h

-- those of the first pairs, and of one more
pub inputs_more : (named : List Named) (i : ℕ) (d : Named) (old new : List (List ℕ)) → i < length named → old ≡ inputs_in (take i named)
    → new ≡ old ++ inputs_in (get_or named i d ∷ []) → new ≡ inputs_in (take (i + 1) named)
inputs_more named i d old new within is more =
    more ∙ ap (λ l. l ++ inputs_in (get_or named i d ∷ [])) is ∙ sym (joined (take i named) (get_or named i d ∷ []))
    ∙ ap inputs_in (sym (take_more named i d within))
