-- Where each part of a disk lies. Sector 0 holds the label. Then come the two roots, the two slots for images, and the two
-- halves of the journal.
use Rattle.std.specs.Prelude.{◌+◌, ◌*◌}
use Rattle.sector_disk.specs.Numbers.{Sector, Sectors}
use Rattle.checkpoint.specs.declared.layout.Layout.{Layout}
use Rattle.checkpoint.specs.declared.side.Side.{Side}
use Rattle.checkpoint.specs.declared.side.Side.TheVariants as side

-- the other one of the two sides
abbrev pub other_of : Side → Side
other_of side.A = side.B
other_of side.B = side.A

-- how many sectors a slot has: one for the header, and one for each row that the limits allow
abbrev pub slot_size : Layout → Sectors
slot_size layout = 1 + layout.limits.rules + layout.limits.radios + layout.limits.mail + layout.limits.stations

-- the sector of the label
abbrev pub label_at : Sector
label_at = 0

-- the sector of a side's root
abbrev pub root_at : Side → Sector
root_at side.A = 1
root_at side.B = 2

-- the first sector of a side's slot
abbrev pub slot_at : Layout → Side → Sector
slot_at layout side.A = 3
slot_at layout side.B = 3 + slot_size layout

-- the first sector of a side's half
abbrev pub half_at : Layout → Side → Sector
half_at layout side.A = 3 + 2 * slot_size layout
half_at layout side.B = 3 + 2 * slot_size layout + layout.journal

-- the sector after the last one of a side's half
abbrev pub half_end : Layout → Side → Sector
half_end layout side = half_at layout side + layout.journal

-- the fewest sectors that a disk may have
abbrev pub disk_size : Layout → Sectors
disk_size layout = 3 + 2 * slot_size layout + 2 * layout.journal
