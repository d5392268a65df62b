-- Bytes are all zero if the first one is and each further one equals the one before it.
use Rattle.std.proofs.Common.{rules, ◌≡◌, ℕ, Bool, true, false, eqb, List, [], ◌∷◌, length, take, refl, ap, ◌∙◌}
use Rattle.std.specs.Prelude.{◌&&◌}
use Rattle.std.specs.List.{list_all}
use Rattle.std.specs.Cmp.Lexicographic.{pointwise}
use Rattle.std.proofs.lemmas.Bool.{eqb-true}
use Rattle.gated_journal.specs.Record.{is_zero}

no_more : (a b c : Bool) → (a ≡ true → b ≡ c) → (a && b) ≡ (a && c)
no_more true b c same = same refl
no_more false b c same = refl

pub shifted : (x : ℕ) (xs : List ℕ) → (eqb x 0 && pointwise eqb xs (take (length xs) (x ∷ xs))) ≡ list_all is_zero (x ∷ xs)
shifted x [] = search rules
shifted x (y ∷ ys) = no_more (eqb x 0) _ _ (λ e. ap (λ z. eqb y z && pointwise eqb ys (take (length ys) (y ∷ ys))) (eqb-true x 0 e) ∙ shifted y ys)
