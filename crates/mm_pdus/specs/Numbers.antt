-- The numbers in mobility management PDUs.
use Rattle.std.specs.Prelude.{ℕ}

-- a class of usage, how much a group matters to a radio: 3 bits, 0 to 7
abbrev pub Class : Type 0
Class = ℕ

-- a reject cause, why a location update is refused: 5 bits, 0 to 31
abbrev pub Cause : Type 0
Cause = ℕ
