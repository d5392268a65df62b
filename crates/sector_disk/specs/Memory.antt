-- What a disk in memory holds: what its calls made of the sectors that it began with.
use Rattle.std.specs.Prelude.{◌≡◌, ℕ, ◌<◌, ◌≤◌, ◌+◌, ◌-◌, Bool, true, false, List, [], ◌∷◌, length, map, replicate, set, take, nat_lt, if◌then◌else◌, Result}
use Rattle.std.specs.Prelude.{Ok, Err}
use Rattle.sector_disk.specs.Numbers.{Byte, Sector, Sectors, Tick}
use Rattle.sector_disk.specs.Disk.{IsImage, IsSector, View, one_failure_more, sector}
use Rattle.sector_disk.specs.Crash.{is_pending}
use Rattle.sector_disk.specs.declared.disk.DiskError.{DiskError}
use Rattle.sector_disk.specs.declared.disk.DiskError.TheVariants.{DiskFault}
use Rattle.sector_disk.specs.declared.record.Call.{Call}
use Rattle.sector_disk.specs.declared.record.Call.TheVariants.{Read, Write, Sync}
use Rattle.sector_disk.specs.declared.memory.MemoryDisk.{MemoryDisk}

-- its sectors, and for each whether it is pending
pub record Contents : Type 0 where
  pub reads : List (List Byte)
  pub pending : List Bool

-- after one call that did not fail
abbrev pub called : Call → Contents → Contents
called (Read at) was = was
called (Write at bytes) was = record { reads = set was.reads at bytes; pending = set was.pending at true }
called Sync was = record { reads = was.reads; pending = map (λ mark. false) was.pending }

-- after these calls, in order
abbrev pub after_calls : List Call → Contents → Contents
after_calls [] was = was
after_calls (call ∷ calls) was = after_calls calls (called call was)

-- the image is one that a stop may leave of these contents
abbrev pub IsLeftOf : Contents → List (List ℕ) → Type 0
IsLeftOf now image = IsImage now.reads (is_pending now.pending) image

-- one of the images after k of the calls, for some k from t on
abbrev pub left_since : Contents → List Call → Tick → List (List Byte) → Type 0
left_since was calls t image = (k : Tick) × (t ≤ k) × (k ≤ length calls) × IsLeftOf (after_calls (take k calls) was) image

-- what it began with: some sectors, and nothing pending
abbrev pub began : {A : Type 0} → MemoryDisk A → Contents
began disk = record { reads = disk.base.items; pending = map (λ bytes. false) disk.base.items }

-- what it holds is what its calls made of what it began with
pub record IsReplayed {A : Type 0} (disk : MemoryDisk A) : Type 0 where
  pub reads : disk.sectors.items ≡ (after_calls disk.record.calls.items (began disk)).reads
  pub pending : disk.pending.items ≡ (after_calls disk.record.calls.items (began disk)).pending
  pub bytes : (k : Sector) → k < length disk.sectors.items → IsSector (sector disk.sectors.items k)

-- what a disk in memory is modelled as: its clock counts the calls in its record
abbrev pub memory_view : {A : Type 0} → MemoryDisk A → View
memory_view disk = record {
  sectors = length disk.sectors.items;
  reads = disk.sectors.items;
  pending = is_pending disk.pending.items;
  moment = length disk.record.calls.items;
  since = left_since (began disk) disk.record.calls.items;
  calls = disk.record.calls.items;
  failures = disk.record.failures;
  honest = IsReplayed disk;
}

-- how many more calls its record has room for
abbrev pub room_left : {A : Type 0} → MemoryDisk A → ℕ
room_left disk = disk.record.room - length disk.record.calls.items

-- A call succeeds while the record has room, and takes one place of it. Otherwise it is only counted as a failure. The room stays the same.
pub record HasRecorded {A : Type 0} (old new : MemoryDisk A) (result : Result Unit DiskError) : Type 0 where
  pub answer : result ≡ (if nat_lt 0 (room_left old) then Ok tt else Err DiskFault)
  pub moment : (memory_view new).moment ≡ (if nat_lt 0 (room_left old) then (memory_view old).moment + 1 else (memory_view old).moment)
  pub failures : new.record.failures ≡ (if nat_lt 0 (room_left old) then old.record.failures else one_failure_more old.record.failures)
  pub room : new.record.room ≡ old.record.room
  pub left : room_left new ≡ room_left old - 1

-- a new disk: zeros, nothing pending, no call recorded, and room for exactly so many
pub record IsBlank {A : Type 0} (disk : MemoryDisk A) (sectors : Sectors) (calls : ℕ) : Type 0 where
  pub honest : (memory_view disk).honest
  pub reads : disk.sectors.items ≡ replicate sectors (replicate 512 0)
  pub durable : (k : Sector) → is_pending disk.pending.items k ≡ false
  pub moment : (memory_view disk).moment ≡ 0
  pub room : disk.record.room ≡ calls
  pub failures : disk.record.failures ≡ 0

-- a disk after a stop: nothing pending, an empty record with all its room
pub record IsRestarted {A : Type 0} (old new : MemoryDisk A) : Type 0 where
  pub honest : (memory_view old).honest → (memory_view new).honest
  pub durable : (k : Sector) → is_pending new.pending.items k ≡ false
  pub moment : (memory_view new).moment ≡ 0
  pub room : new.record.room ≡ old.record.room
  pub failures : new.record.failures ≡ old.record.failures
