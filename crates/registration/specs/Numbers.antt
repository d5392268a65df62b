-- The numbers of rules and radios.
use Rattle.std.specs.Prelude.{ℕ}

-- a location area: 14 bits, 0 to 16,383
abbrev pub Area : Type 0
Area = ℕ

-- a station: 1 to how many the register has, at most 64
abbrev pub Station : Type 0
Station = ℕ

-- a span of time in seconds: 0 to 4,294,967,295
abbrev pub Seconds : Type 0
Seconds = ℕ
