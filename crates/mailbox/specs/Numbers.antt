-- The numbers of items.
use Rattle.std.specs.Prelude.{ℕ}

-- the place of an accepted command among all: 1 to 2 to the 62nd
abbrev pub Number : Type 0
Number = ℕ

-- how many commands were accepted: 0 to 2 to the 62nd
abbrev pub Count : Type 0
Count = ℕ

-- a moment in seconds: that of a command 0 to 4,294,967,295, a deadline up to twice as much
abbrev pub Moment : Type 0
Moment = ℕ
