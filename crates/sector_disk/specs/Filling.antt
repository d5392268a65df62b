-- A run of writes: what a stop leaves of it, and which calls it makes.
use Rattle.std.specs.Prelude.{◌≡◌, ◌⊎◌, ℕ, ◌<◌, ◌≤◌, ◌+◌, ◌*◌, ◌/◌, List, length, take, drop, IsErr, IsErrOf, OnOk, Result}
use Rattle.sector_disk.specs.Numbers.{Byte, Sector, Sectors}
use Rattle.sector_disk.specs.Disk.{View, IsImageOf, sector}
use Rattle.sector_disk.specs.Effects.{KeepsDisk}
use Rattle.sector_disk.specs.Run.{HasCalled, HasMade, LeavesOnly, IsTornImage}
use Rattle.sector_disk.specs.declared.disk.DiskError.{DiskError}
use Rattle.sector_disk.specs.declared.disk.DiskError.TheVariants.{OutOfRange}
use Rattle.sector_disk.specs.declared.record.Call.{Call}

-- A run of writes: n sectors from at on, the k-th with the bytes of k. Until the run ends, these sectors may hold anything.
pub record HasFilled (old new : View) (at : Sector) (n : Sectors) (bytes : ℕ → List Byte) (result : Result Unit DiskError) : Type 0 where
  pub honest : new.honest
  pub crash : LeavesOnly old new (IsTornImage old at n)
  pub now : (image : List (List Byte)) → IsImageOf new image → IsTornImage old at n image
  pub count : length new.reads ≡ length old.reads
  pub others : (k : ℕ) → (k < at) ⊎ (at + n ≤ k) → sector new.reads k ≡ sector old.reads k
  pub written : OnOk result ((k : ℕ) → k < n → sector new.reads (at + k) ≡ bytes k)

-- At `Ok` the disk has had all of these calls, and after an error a prefix of them. The error is never `OutOfRange`, and comes
-- only where the device has failed.
pub record Runs (old new : View) (made : List Call) (result : Result Unit DiskError) : Type 0 where
  pub calls : OnOk result (HasCalled old new made)
  pub some_calls : HasMade old new made
  pub keeps : KeepsDisk old new (IsErr result)
  pub in_range : IsErrOf result OutOfRange → ⊥

-- how many whole sectors so many bytes are
abbrev pub sectors_in : List Byte → Sectors
sectors_in bytes = length bytes / 512

-- the bytes of the sector k of a run
abbrev pub part_of : List Byte → ℕ → List Byte
part_of bytes k = take 512 (drop (512 * k) bytes)
