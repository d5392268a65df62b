-- What a stop leaves in two places of a disk.
use Rattle.std.specs.Prelude.{◌≡◌, ◌⊎◌, ◌<◌, ◌≤◌, ◌+◌, List, length}
use Rattle.sector_disk.specs.Numbers.{Byte, Sector, Sectors}
use Rattle.sector_disk.specs.Disk.{View, IsImageOf, sector}

-- new is old but in n sectors from `at` on, and in m sectors from `to` on, which may hold anything
pub record IsTornTwice (at : Sector) (n : Sectors) (to : Sector) (m : Sectors) (old new : List (List Byte)) : Type 0 where
  pub count : length new ≡ length old
  pub others : (k : Sector) → (k < at) ⊎ (at + n ≤ k) → (k < to) ⊎ (to + m ≤ k) → sector new k ≡ sector old k

-- an image of the disk, but for n sectors from `at` on and m sectors from `to` on, which may hold anything
abbrev pub IsTornTwiceImage : View → Sector → Sectors → Sector → Sectors → List (List Byte) → Type 0
IsTornTwiceImage disk at n to m image = (was : List (List Byte)) × IsImageOf disk was × IsTornTwice at n to m was image
