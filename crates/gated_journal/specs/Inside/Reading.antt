-- Calls that read a half through a buffer.
use Rattle.std.specs.Prelude.{◌≡◌, ◌+◌, ◌*◌, ◌-◌, ◌<◌, ◌≤◌, ℕ, IsErrOf, None, Option, Some, Result, option_map}
use Rattle.bytes.specs.Filled.{Filled}
use Rattle.sector_disk.specs.Disk.{View}
use Rattle.sector_disk.specs.Effects.{OnlyReads}
use Rattle.sector_disk.specs.Numbers.{Sector}
use Rattle.gated_journal.specs.Half.{bytes_at, data_from}
use Rattle.gated_journal.specs.Inside.Room.{capacity}
use Rattle.gated_journal.specs.Reading.{Answers}
use Rattle.gated_journal.specs.Record.{most_commands, most_data_sectors}
use Rattle.gated_journal.specs.Settled.{HasNumbersLeft}
use Rattle.gated_journal.specs.declared.fault.JournalError.{JournalError}
use Rattle.gated_journal.specs.declared.fault.JournalError.TheVariants.{DiskFault}
use Rattle.gated_journal.specs.declared.place.Place.{Place}

-- What a read from the next gate of a place on requires. The gate is before the half's end, and that end is within the disk. The
-- numbers of the commands fit 8 bytes (`HasNumbersLeft`). The buffer, if it is emptied, has room for the greatest record.
pub record IsToRead (disk : View) (place : Place) (buffer : Filled) : Type 0 where
  pub before : place.next < place.end
  pub within : place.end ≤ disk.sectors
  pub counts : HasNumbersLeft place
  pub room : 512 * most_data_sectors ≤ capacity buffer

-- A read through a buffer, which is `after` at the end. The disk is only read. `IsRight` is what the caller's contract states of
-- the result, and holds if the disk is honest. The buffer has at least its old capacity.
pub record ReadsInto {X : Type 0} (old new : View) (buffer after : Filled) (result : Result X JournalError) (IsRight : Type 0) : Type 0 where
  pub reads : OnlyReads old new (IsErrOf result DiskFault)
  pub exact : old.honest → IsRight
  pub capacity : capacity buffer ≤ capacity after

-- What the read of the bytes at the next gate of a place answers. At `Some` the buffer holds the bytes of the record's data
-- sectors, and the number in `Some` is the gate after them. At `None` the gate is closed. `Damaged` names the sector at fault.
abbrev pub GivesBytes : View → Place → Filled → Result (Option Sector) JournalError → Type 0
GivesBytes disk place buffer result =
    Answers (λ found. option_map (λ next. (buffer.items, next)) found) result (bytes_at place.form disk.reads place.next place.end)

-- `next` may be the gate after a record of `count` commands at the next gate of a place. At least one sector is between the two
-- gates, `next` is before the half's end, and `count` is at most `most_commands`.
abbrev pub IsPast : Place → ℕ → Sector → Type 0
IsPast place count next = (place.next + 1 < next) × (next < place.end) × (count ≤ most_commands)

-- if the buffer holds the first `from` sectors from the sector `at` on, `after` holds the first n of them
abbrev pub HoldsMore : View → Sector → ℕ → ℕ → Filled → Filled → Type 0
HoldsMore disk at from n buffer after = buffer.items ≡ data_from disk.reads at from → after.items ≡ data_from disk.reads at n

-- how many sectors are read at the next gate of a place: 1 if it is closed, else that gate and those between it and the gate found next
abbrev pub sectors_to : Place → Option Sector → ℕ
sectors_to place None = 1
sectors_to place (Some next) = next - place.next
