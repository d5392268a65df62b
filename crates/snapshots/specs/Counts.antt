-- How many calls of a publisher were out of memory.
use Rattle.std.specs.Prelude.{◌≡◌, ◌<◌, ◌≤◌, ◌+◌, ◌^◌, ℕ, Result, MatchResult}

-- the next number of 64 bits: 0 after the greatest
abbrev pub IsNext : ℕ → ℕ → Type 0
IsNext n m = (n + 1 < 2 ^ 64 → m ≡ n + 1) × (2 ^ 64 ≤ n + 1 → m ≡ 0)

-- a call that was out of memory is counted, and no other is
abbrev pub IsCountedIfRefused : {T E : Type 0} → Result T E → ℕ → ℕ → Type 0
IsCountedIfRefused result was now = MatchResult result (λ _. now ≡ was) (λ _. IsNext was now)
