-- The numbers in names and their places.
use Rattle.std.specs.Prelude.{ℕ}

-- a byte: 0 to 255
abbrev pub Byte : Type 0
Byte = ℕ

-- the place of a name among the names of files, from 1
abbrev pub Place : Type 0
Place = ℕ
