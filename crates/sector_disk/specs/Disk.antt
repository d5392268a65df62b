-- What a disk of sectors is: what reading gives, what a stop may leave, and how each call changes both.
use Rattle.std.specs.Prelude.{◌≡◌, ◌≢◌, ◌⊎◌, ℕ, ◌<◌, ◌≤◌, ◌+◌, ◌^◌, ◌-◌, min, Bool, true, false, List, [], ◌∷◌, ◌++◌, length, slice_index, slice_index_or}
use Rattle.std.specs.Prelude.{Result, IsErrOf, OnOk, OnErr}
use Rattle.sector_disk.specs.Numbers.{Byte, Sector, Sectors, Tick}
use Rattle.sector_disk.specs.declared.disk.DiskError.{DiskError}
use Rattle.sector_disk.specs.declared.disk.DiskError.TheVariants.{DiskFault}
use Rattle.sector_disk.specs.declared.record.Call.{Call}

-- the sector at a place, empty past the end
abbrev pub sector : List (List Byte) → Sector → List Byte
sector sectors at = slice_index_or sectors at []

-- 512 bytes
pub record IsSector (numbers : List Byte) : Type 0 where
  pub size : length numbers ≡ 512
  pub bytes : (i : ℕ) → slice_index numbers i < 256

-- each of these is 512 bytes
pub record AreSectors (sectors : List (List Byte)) : Type 0 where
  pub each : (k : Sector) → k < length sectors → IsSector (sector sectors k)

-- What a disk is modelled as.
pub record View : Type 1 where
  -- how many sectors it has
  pub sectors : Sectors
  -- the sectors as a read gives them
  pub reads : List (List Byte)
  -- the sectors in which a stop may leave any bytes
  pub pending : Sector → Bool
  -- the clock: a number that never falls
  pub moment : Tick
  -- the images that a stop may leave at any moment from that one to now, also within a call
  pub since : Tick → List (List Byte) → Type 0
  -- the calls `read`, `write` and `sync` that it has had, in order
  pub calls : List Call
  -- how often the device has failed
  pub failures : ℕ
  -- the device does what is stated of the rest: each clause on the rest has this premise
  pub honest : Type 0

-- what a stop may leave: any 512 bytes in each pending sector, and the others as a read gives them
pub record IsImage (reads : List (List Byte)) (pending : Sector → Bool) (image : List (List Byte)) : Type 0 where
  pub count : length image ≡ length reads
  pub whole : (k : Sector) → k < length image → IsSector (sector image k)
  pub others : (k : Sector) → pending k ≡ false → sector image k ≡ sector reads k

-- what a stop may leave of the disk now
abbrev pub IsImageOf : View → List (List Byte) → Type 0
IsImageOf disk image = IsImage disk.reads disk.pending image

-- What holds of an honest disk at each moment.
pub record IsSound (disk : View) : Type 0 where
  pub count : length disk.reads ≡ disk.sectors
  -- what a read gives is one of the images
  pub reads_left : IsImageOf disk disk.reads
  -- the images of now are among those since any moment
  pub counts_now : (t : Tick) (image : List (List Byte)) → t ≤ disk.moment → IsImageOf disk image → disk.since t image
  -- since now there are no others
  pub only_now : (image : List (List Byte)) → disk.since disk.moment image → IsImageOf disk image
  -- since an earlier moment there are no fewer
  pub earlier : (s t : Tick) (image : List (List Byte)) → s ≤ t → disk.since t image → disk.since s image

-- Time passes. The images since t are those that there were, and those of now.
pub record Elapses (old new : View) : Type 0 where
  pub later : old.moment ≤ new.moment
  pub each_stays : (t : Tick) (image : List (List Byte)) → t ≤ old.moment → old.since t image → new.since t image
  pub nothing_else : (t : Tick) (image : List (List Byte)) → t ≤ old.moment → new.since t image → old.since t image ⊎ IsImageOf new image

-- A read gives the sector, and changes no image.
pub record HasRead (old new : View) (at : Sector) (bytes : List Byte) (result : Result Unit DiskError) : Type 0 where
  pub honest : new.honest
  pub time : Elapses old new
  pub reads : new.reads ≡ old.reads
  pub pending : new.pending ≡ old.pending
  pub given : OnOk result (bytes ≡ sector old.reads at)

-- A write makes its sector pending, and leaves the others as they were. If it fails, the sector may read as anything.
pub record HasWritten (old new : View) (at : Sector) (bytes : List Byte) (result : Result Unit DiskError) : Type 0 where
  pub honest : new.honest
  pub time : Elapses old new
  pub count : length new.reads ≡ length old.reads
  pub others : (k : Sector) → k ≢ at → sector new.reads k ≡ sector old.reads k
  pub others_pending : (k : Sector) → k ≢ at → new.pending k ≡ old.pending k
  pub still_pending : old.pending at ≡ true → new.pending at ≡ true
  pub written : OnOk result ((sector new.reads at ≡ bytes) × (new.pending at ≡ true))

-- After a sync that succeeds nothing is pending. After one that fails the same sectors are.
pub record HasSynced (old new : View) (result : Result Unit DiskError) : Type 0 where
  pub honest : new.honest
  pub time : Elapses old new
  pub reads : new.reads ≡ old.reads
  pub pending : OnErr result (new.pending ≡ old.pending)
  pub durable : OnOk result ((k : Sector) → new.pending k ≡ false)

-- A call that answers `Ok` adds this one call to the list. One that fails adds it, or nothing.
pub record IsCalled (old new : View) (call : Call) (result : Result Unit DiskError) : Type 0 where
  pub made : OnOk result (new.calls ≡ old.calls ++ call ∷ [])
  pub tried : OnErr result ((new.calls ≡ old.calls) ⊎ (new.calls ≡ old.calls ++ call ∷ []))

-- the failures counted, after one more
abbrev pub one_failure_more : ℕ → ℕ
one_failure_more failures = min (failures + 1) (2 ^ 64 - 1)

-- the device has failed between old and new, or as often as can be counted
abbrev pub HasFailed : View → View → Type 0
HasFailed old new = (old.failures < new.failures) ⊎ (new.failures ≡ 2 ^ 64 - 1)

-- `DiskFault` comes only where the device has failed. Failures are counted up to a bound.
pub record HasCause {T : Type 0} (old new : View) (result : Result T DiskError) : Type 0 where
  pub sectors : new.sectors ≡ old.sectors
  pub later : old.failures ≤ new.failures
  pub bound : new.failures ≤ 2 ^ 64 - 1
  pub fault : IsErrOf result DiskFault → HasFailed old new
