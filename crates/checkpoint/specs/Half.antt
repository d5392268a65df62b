-- How large a half of the journal may be.
use Rattle.std.specs.Prelude.{◌≤◌}
use Rattle.sector_disk.specs.Numbers.{Sectors}

-- the fewest sectors of a half
abbrev pub fewest_sectors : Sectors
fewest_sectors = 38

-- the most sectors of a half
abbrev pub most_half_sectors : Sectors
most_half_sectors = 65536

-- a half may have so many sectors
pub record IsHalfSize (journal : Sectors) : Type 0 where
  pub fewest : fewest_sectors ≤ journal
  pub most : journal ≤ most_half_sectors
