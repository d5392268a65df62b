-- The table of the pairs of digits.
use Rattle.std.proofs.Common.{◌≡◌, ℕ, ◌<◌, List, [], get_or, map, refl, ap, ◌∙◌, arith}
use Rattle.std.specs.List.{range_with_len}
use Rattle.std.proofs.lemmas.List.FromFn.{get_or-map-range_with_len}
use Rattle.identity.specs.Inside.EightDigits.{two_before}
use Rattle.identity.specs.declared.number_text.TheConstants.{PAIRS}

pairs : PAIRS ≡ map (λ (n : ℕ). two_before n []) (range_with_len 0 100)
pairs = refl

-- the pair of a number below 100
pub pair_at : (n : ℕ) → n < 100 → get_or PAIRS n [] ≡ two_before n []
pair_at n small = ap (λ (l : List (List ℕ)). get_or l n []) pairs ∙ get_or-map-range_with_len (λ (k : ℕ). two_before k []) 0 100 n n [] small (omega arith)
