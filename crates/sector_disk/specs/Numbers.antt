-- The numbers of a disk.
use Rattle.std.specs.Prelude.{ℕ}

-- a byte: 0 to 255
abbrev pub Byte : Type 0
Byte = ℕ

-- the place of a sector on its disk, from 0
abbrev pub Sector : Type 0
Sector = ℕ

-- how many sectors: of a disk, or of a run of them
abbrev pub Sectors : Type 0
Sectors = ℕ

-- how many bytes: of a run of them, or before a place
abbrev pub Bytes : Type 0
Bytes = ℕ

-- a moment of a disk, by its own clock: from 0, it never falls
abbrev pub Tick : Type 0
Tick = ℕ
