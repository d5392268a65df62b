-- What a stop leaves, where a caller names the bytes of pending sectors.
use Rattle.std.specs.Prelude.{◌≡◌, ◌<◌, Bool, true, false, List, [], ◌∷◌, length, slice_index_or, ◌==◌, if◌then◌else◌}
use Rattle.sector_disk.specs.Numbers.{Byte, Sector}
use Rattle.sector_disk.specs.Disk.{sector}

-- whether a sector is marked as pending; none past the last mark is
abbrev pub is_pending : List Bool → Sector → Bool
is_pending marks at = slice_index_or marks at false

-- the bytes named last for a sector, or these where it is not named
abbrev pub named : List (Sector × List Byte) → Sector → List Byte → List Byte
named [] k bytes = bytes
named ((at, given) ∷ fill) k bytes = named fill k (if at == k then given else bytes)

-- A pending sector that is named holds the bytes named last for it. Each other sector holds what a read gave.
pub record IsFilled (reads : List (List Byte)) (pending : Sector → Bool) (fill : List (Sector × List Byte)) (image : List (List Byte)) : Type 0 where
  pub count : length image ≡ length reads
  pub chosen : (k : Sector) → k < length reads → pending k ≡ true → sector image k ≡ named fill k (sector reads k)
  pub settled : (k : Sector) → pending k ≡ false → sector image k ≡ sector reads k
