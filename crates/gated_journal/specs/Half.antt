-- What a half of a disk reads as: its records up to the first closed gate, or the first sector at fault.
use Rattle.std.specs.Prelude.{◌≡◌, ◌≢◌, ℕ, zero, suc, ◌+◌, ◌-◌, ◌/◌, ◌==◌, ◌&&◌, Bool, List, [], ◌∷◌, ◌++◌, length, slice_index, Option, Some, None, Result, Ok}
use Rattle.std.specs.Prelude.{Err, nat_le, nat_lt, if◌then◌else◌}
use Rattle.byteorder.specs.Endian.{big_from}
use Rattle.identity.specs.Numbers.{Byte}
use Rattle.sector_disk.specs.Numbers.{Sector, Sectors}
use Rattle.sector_disk.specs.Disk.{sector}
use Rattle.centre_core.specs.Asked.{Asked}
use Rattle.gated_journal.specs.Record.{most_data_sectors, record_of}
use Rattle.gated_journal.specs.declared.form.Form.{Form}
use Rattle.gated_journal.specs.declared.form.Form.TheVariants.{Numbered, Plain}

-- a gate is open where its first byte is 1
abbrev pub IsOpen : List Byte → Type 0
IsOpen bytes = slice_index bytes 0 ≡ 1

-- a gate is closed where its first byte is anything but 1
abbrev pub IsClosed : List Byte → Type 0
IsClosed bytes = slice_index bytes 0 ≢ 1

-- whether a gate is open, as a test
abbrev pub is_open : List ℕ → Bool
is_open bytes = slice_index bytes 0 == 1

-- How many data sectors a record takes, as its first data sector states. The 6 or 14 bytes of the head count too: 517 is
-- 6 + 511, and 525 is 14 + 511.
abbrev pub stated_size : Form → List Byte → Sectors
stated_size Plain bytes = (big_from 2 4 bytes + 517) / 512
stated_size Numbered bytes = (big_from 10 4 bytes + 525) / 512

-- the bytes of so many sectors from the sector `at` on
unfoldable pub data_from : List (List Byte) → Sector → Sectors → List Byte
data_from image at zero = []
data_from image at (suc n) = data_from image at n ++ sector image (at + n)

-- a record of a half: its first data sector and its commands, whose bits are under the allocator A
abbrev pub RecordAt : Type 0 → Type 0
RecordAt A = Sector × List (Asked A)

-- what is at a gate: nothing, or a record and the next gate, or the sector at fault
abbrev pub Found : Type 0 → Type 0
Found A = Result (Option (List (Asked A) × Sector)) Sector

-- the records of a half and the first closed gate, or the sector at fault
abbrev pub Half : Type 0 → Type 0
Half A = Result (List (RecordAt A) × Sector) Sector

-- a record of so many data sectors fits after the gate `at`: they are at most `most_data_sectors`, and the next gate is before `end`
abbrev pub fits_after : Sector → Sector → Sectors → Bool
fits_after at end size = nat_le size most_data_sectors && nat_lt (at + 1 + size) end

-- What follows the open gate `at`, where a record of `size` data sectors is stated: `make size` where the record fits. A gate in
-- the half's last sector is itself at fault. A record that does not fit is a fault of its first data sector.
abbrev pub after_gate : {X : Type 0} → Sector → Sector → Sectors → (Sectors → Result (Option X) Sector) → Result (Option X) Sector
after_gate at end size make = if at + 1 == end then Err at else if fits_after at end size then make size else Err (at + 1)

-- What is at a gate: nothing where it is closed, else what `after_gate` states of the size in the next sector.
abbrev pub at_gate : {X : Type 0} → Form → List (List Byte) → Sector → Sector → (Sectors → Result (Option X) Sector) → Result (Option X) Sector
at_gate form image at end make = if is_open (sector image at) then after_gate at end (stated_size form (sector image (at + 1))) make else Ok None

-- What is at a gate, before the bytes are judged to be a record: nothing where it is closed, else the bytes of the data sectors
-- and the next gate; or the sector at fault.
unfoldable pub bytes_at : Form → List (List Byte) → Sector → Sector → Result (Option (List Byte × Sector)) Sector
bytes_at form image at end = at_gate form image at end (λ size. Ok (Some (data_from image (at + 1) size, at + 1 + size)))

module _ {A : Type 0} where
  -- the commands of a record and the next gate, or the sector at fault where there are no commands
  abbrev pub found : Sector → Sector → Option (List (Asked A)) → Found A
  found at next None = Err at
  found at next (Some commands) = Ok (Some (commands, next))

  -- What is at a gate, after so many accepted commands: nothing where it is closed, else its record and the next gate.
  -- Whatever is wrong with a record, also a number that does not follow, is a fault of its first data sector.
  unfoldable pub record_at : Form → ℕ → List (List Byte) → Sector → Sector → Found A
  record_at form before image at end =
      at_gate form image at end (λ size. found (at + 1) (at + 1 + size) (record_of form before (data_from image (at + 1) size)))

  -- What `bytes_at` found, judged: the record that the bytes are after so many accepted commands. Bytes that are none are a
  -- fault of the first data sector.
  abbrev pub judged : Form → ℕ → Sector → Result (Option (List Byte × Sector)) Sector → Found A
  judged form before at (Err s) = Err s
  judged form before at (Ok None) = Ok None
  judged form before at (Ok (Some bytes_and_next)) = found (at + 1) bytes_and_next.1 (record_of form before bytes_and_next.0)

  -- a half with these records before its own; a sector at fault stays
  abbrev pub with_prefix : List (RecordAt A) → Half A → Half A
  with_prefix prefix (Ok half) = Ok (prefix ++ half.0, half.1)
  with_prefix prefix (Err at) = Err at

  -- the records from a gate on: none where it is closed, else the one there and those after it; or the sector at fault
  abbrev pub half_on : Sector → Found A → (List (Asked A) × Sector → Half A) → Half A
  half_on at (Err fault) go = Err fault
  half_on at (Ok None) go = Ok ([], at)
  half_on at (Ok (Some record_and_next)) go = with_prefix ((at + 1, record_and_next.0) ∷ []) (go record_and_next)

  -- The records from a gate on, so many at most, and the gate after them; or the sector at fault. Each follows the commands
  -- accepted before, and those of the records before it.
  unfoldable pub half_from : ℕ → Form → ℕ → List (List Byte) → Sector → Sector → Half A
  half_from zero form before image at end = Ok ([], at)
  half_from (suc fuel) form before image at end =
      half_on at (record_at form before image at end) (λ x. half_from fuel form (before + length x.0) image x.1 end)

  -- the records in the sectors from first up to end; each takes two sectors at least, so the fuel suffices
  abbrev pub half_of : Form → ℕ → List (List Byte) → Sector → Sector → Half A
  half_of form before image first end = half_from (end - first) form before image first end

  -- how many commands are accepted after `before` commands and those of these records
  abbrev pub counted : ℕ → List (RecordAt A) → ℕ
  counted before [] = before
  counted before (entry ∷ entries) = counted (before + length entry.1) entries
