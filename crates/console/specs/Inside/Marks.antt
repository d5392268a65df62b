-- The spaces of a line as the bits of a number.
use Rattle.std.specs.Prelude.{◌≡◌, ℕ, ◌<◌, ◌≤◌, List, slice_index}
use Rattle.std.specs.Int.{bit_at}
use Rattle.identity.specs.Numbers.{Byte}

-- bit k of the marks is set where byte k is a space, for each k from start up to end. No other bit is set
pub record AreSpaces (line : List Byte) (start end marks : ℕ) : Type 0 where
  pub marked : (k : ℕ) → start ≤ k → k < end → slice_index line k ≡ 32 → bit_at marks k ≡ 1
  pub low : (k : ℕ) → bit_at marks k ≡ 1 → start ≤ k
  pub high : (k : ℕ) → bit_at marks k ≡ 1 → k < end
  pub space : (k : ℕ) → bit_at marks k ≡ 1 → slice_index line k ≡ 32
