-- Numbers of up to eight decimal digits, with zeros before them.
use Rattle.std.specs.Prelude.{ℕ, ◌+◌, ◌/◌, ◌%◌, List, [], ◌∷◌}
use Rattle.identity.specs.Numbers.{Byte}

-- The two digits of a number below 100, before others.
abbrev pub two_before : ℕ → List Byte → List Byte
two_before n digits = (48 + n / 10) ∷ (48 + n % 10) ∷ digits

-- The eight digits of a number below 100,000,000.
abbrev pub eight_of : ℕ → List Byte
eight_of n = two_before (n / 10000 / 100) (two_before (n / 10000 % 100) (two_before (n % 10000 / 100) (two_before (n % 10000 % 100) [])))
