-- The numbers in short data PDUs.
use Rattle.std.specs.Prelude.{ℕ}

-- a message reference, by which a report names its message: 8 bits, 0 to 255
abbrev pub Reference : Type 0
Reference = ℕ

-- a delivery status, what became of a message: 8 bits, 0 to 255
abbrev pub Status : Type 0
Status = ℕ
