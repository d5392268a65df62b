-- Damage that is found sector by sector.
use Rattle.std.specs.Prelude.{◌≡◌, ◌++◌, ◌+◌, ◌-◌, ◌<◌, ◌≤◌, ℕ, IfSome, List, OnOk, Option, Result, true}
use Rattle.identity.specs.Numbers.{Byte}
use Rattle.sector_disk.specs.Numbers.{Sector}
use Rattle.sector_disk.specs.Disk.{View, sector}
use Rattle.image_rows.specs.Rows.{Header, row_count}
use Rattle.image_rows.specs.RowReading.{row_in}
use Rattle.image_rows.specs.Loading.{header_may}
use Rattle.checkpoint.specs.declared.layout.Layout.{Layout}
use Rattle.checkpoint.specs.declared.side.Side.{Side}
use Rattle.checkpoint.specs.Layout.{disk_size, slot_at}
use Rattle.checkpoint.specs.OnSide.{ReadsForm}
use Rattle.recovery.specs.Damage.{KeepsFirst, after_header, after_row, bad_record_in, header_of, rows_damage}
use Rattle.recovery.specs.declared.damaged.Damage.{Damage}
use Rattle.recovery.specs.declared.damaged.Stop.{Stop}
use Rattle.recovery.specs.declared.fault.StoreFault.{StoreFault}
use Rattle.recovery.specs.declared.stated.Stated.{Stated}

-- the header in a side's slot
abbrev pub slot_header : Layout → Side → List (List Byte) → Option Header
slot_header layout side image = header_of (row_in (sector image (slot_at layout side)))

-- the rows of a slot from a place on with which something is wrong by themselves
abbrev pub rows_from : List (List Byte) → Sector → Header → ℕ → List Damage
rows_from image slot h from = rows_damage image slot h from (row_count h - from)

-- this is the first record of a side that can't be read, where the header states their form
abbrev pub IsBadRecord : Type 0 → Layout → Side → Stated → View → Option Sector → Type 0
IsBadRecord A layout side stated disk bad = ReadsForm layout side stated.form disk → bad ≡ bad_record_in A layout side stated.header disk.reads

-- Opening stops here on a side whose header the limits allow. The sector and the bad record are on the disk.
pub record IsStop (layout : Layout) (stop : Stop) (disk : View) : Type 0 where
  pub room : disk_size layout ≤ disk.sectors
  pub may : header_may layout.limits stop.header ≡ true
  pub first : stop.first < disk.sectors
  pub bad : IfSome stop.bad (λ at. at < disk.sectors)

-- the damaged sectors from the row on at which opening stops here
abbrev pub row_damage_from : Layout → Side → List (List Byte) → Stop → List Damage
row_damage_from layout side image stop = after_row layout side image stop.header stop.first stop.bad

-- the damaged sectors of a side with a good header, on which opening stops here
abbrev pub damage_at : Layout → Side → List (List Byte) → Stop → List Damage
damage_at layout side image stop = after_header layout side image stop.first stop.header stop.bad

-- `more`, which is damage as the disk reads, is added to what was found before.
pub record AddsDamage {T : Type 0} (disk : View) (old new more : List Damage) (result : Result T StoreFault) : Type 0 where
  pub added : OnOk result (disk.honest → new ≡ old ++ more)
  pub first : OnOk result (KeepsFirst old new)
