-- How many bits there are after a field was written.
use Rattle.std.proofs.Common.{◌≡◌, ℕ, ◌+◌, Bool, List, [], ◌∷◌, ◌++◌, length, ap, arith, length-append}
use Rattle.identity.specs.Number.{num}
use Rattle.identity.specs.Inside.NumberLaws.{length-num}

pub after_number : (before after : List Bool) (w v : ℕ) → after ≡ before ++ num w v → length after ≡ length before + w
after_number before after w v e = let size = ap length e in omega (arith, size, length-append before (num w v), length-num w v)

pub after_bit : (before after : List Bool) (b : Bool) → after ≡ before ++ b ∷ [] → length after ≡ length before + 1
after_bit before after b e = let size = ap length e in omega (arith, size, length-append before (b ∷ []))
