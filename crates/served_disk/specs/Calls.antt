-- The calls that the program has made on a disk: on one that it was given, or on the one in a file.
use Rattle.std.specs.Prelude.{◌≡◌, ◌⊎◌, false, IfSome, List, [], ◌∷◌, ◌++◌, None}
use Rattle.sector_disk.specs.Disk.{View}
use Rattle.sector_disk.specs.Numbers.{Byte, Sectors}
use Rattle.sector_disk.specs.Reading.{before_reads}
use Rattle.sector_disk.specs.declared.record.Call.{Call}
use Rattle.sector_disk.specs.declared.record.Call.TheVariants.{Sync}
use Rattle.file_disk.specs.declared.disk.FileDisk.{FileDisk}
use Rattle.file_disk.specs.Disk.{blank_calls, calls_of, is_lost}
use Rattle.checkpoint.specs.Layout.{disk_size}
use Rattle.checkpoint.specs.declared.layout.Layout.{Layout}
use Rattle.served_disk.specs.declared.fault.Fault.{Fault}
use Rattle.served_disk.specs.declared.fault.Fault.TheVariants.{Device}
use Rattle.served_disk.specs.declared.refused.Refused.{Refused}
use Rattle.served_disk.specs.Making.{IsOfTaking}

-- ---- reading

-- a disk was read: after its earlier calls it has had one sync, and then only reads
abbrev pub WasRead : View → View → Type 0
WasRead old new = before_reads new.calls ≡ old.calls ++ Sync ∷ []

-- A disk was read, or it had no further call. In the second case Fails holds, which speaks of the fault that was returned.
abbrev pub WasReadAtMost : Type 0 → View → View → Type 0
WasReadAtMost Fails old new = WasRead old new ⊎ (Fails × (new.calls ≡ old.calls))

-- all calls of a disk that was opened and read: one sync, and after it only reads
abbrev pub IsOnlyRead : List Call → Type 0
IsOnlyRead calls = before_reads calls ≡ Sync ∷ []

-- all calls of a disk that was opened, where this fault is reported: one sync and after it only reads; or none, and the fault is `Device`
abbrev pub IsReadAtMost : Fault → List Call → Type 0
IsReadAtMost fault calls = IsOnlyRead calls ⊎ ((fault ≡ Device) × (calls ≡ []))

-- A call that only reads the disk in the file of this name was refused. May says which faults the call may report. If the disk comes back, it was at
-- most read (`IsReadAtMost`). If no disk comes back, the fault is one of taking the file as a disk (`IsOfTaking`).
pub record IsReadRefused {F : Type 0} (May : List Byte → Fault → Type 0) (name : List Byte) (e : Refused F) : Type 0 where
  pub kinds : May name e.fault
  pub some_calls : IfSome e.disk (λ disk. IsReadAtMost e.fault (calls_of disk))
  pub none : e.disk ≡ None → IsOfTaking name e.fault

-- ---- making

-- a disk in a new file: zeros were written into each of this many sectors, then they were synced, and no call has failed
pub record IsBlankOf {F : Type 0} (sectors : Sectors) (disk : FileDisk F) : Type 0 where
  pub count : disk.sectors ≡ sectors
  pub calls : calls_of disk ≡ blank_calls sectors
  pub failures : disk.failures ≡ 0
  pub kept : is_lost disk ≡ false

-- the calls that make a disk in a new file: zeros into each sector and a sync, then these
abbrev pub making_calls : Layout → List Call → List Call
making_calls layout calls = blank_calls (disk_size layout) ++ calls

-- the second list of calls is a prefix of the first
abbrev pub IsPartlyMade : List Call → List Call → Type 0
IsPartlyMade all calls = (left : List Call) × (all ≡ calls ++ left)

-- if the disk comes back, it has had a prefix of these calls
abbrev pub HasPartOf : {F : Type 0} → List Call → Refused F → Type 0
HasPartOf all e = IfSome e.disk (λ disk. IsPartlyMade all (calls_of disk))
