-- A disk over a file.
use Rattle.std.specs.Prelude.{◌≡◌, ℕ, ◌<◌, Bool, false, List, [], ◌∷◌, ◌++◌, replicate, Result, Ok, Err}
use Rattle.sector_disk.specs.Numbers.{Sector, Sectors}
use Rattle.sector_disk.specs.Disk.{View, IsSound, one_failure_more, sector}
use Rattle.sector_disk.specs.Run.{writes}
use Rattle.sector_disk.specs.declared.disk.DiskError.{DiskError}
use Rattle.sector_disk.specs.declared.disk.DiskError.TheVariants.{DiskFault, OutOfRange}
use Rattle.sector_disk.specs.declared.record.Call.{Call}
use Rattle.sector_disk.specs.declared.record.Call.TheVariants.{Sync}
use Rattle.file_disk.specs.declared.disk.FileDisk.{FileDisk}

-- The file's sectors, which of them are pending, and its moments. The disk is honest where the file is, and has as many sectors.
abbrev pub file_view : {F : Type 0} → (F → View) → FileDisk F → View
file_view view disk = record {
  sectors = disk.sectors;
  reads = (view disk.file).reads;
  pending = (view disk.file).pending;
  moment = (view disk.file).moment;
  since = (view disk.file).since;
  calls = disk.history.calls;
  failures = disk.failures;
  honest = (view disk.file).honest × ((view disk.file).sectors ≡ disk.sectors);
}

-- it is sound where the file is, and has as many sectors
pub file_sound : {F : Type 0} (view : F → View) (disk : FileDisk F) → IsSound (view disk.file) → (view disk.file).sectors ≡ disk.sectors
    → IsSound (file_view view disk)
file_sound view disk is same = record {
  count = rw (← same) is.count;
  reads_left = is.reads_left;
  counts_now = is.counts_now;
  only_now = is.only_now;
  earlier = is.earlier;
}

-- the file that the disk is on
abbrev pub file_of : {F : Type 0} → FileDisk F → F
file_of disk = disk.file

-- the calls `read`, `write` and `sync` that the disk has had, in order
abbrev pub calls_of : {F : Type 0} → FileDisk F → List Call
calls_of disk = disk.history.calls

-- a sync has failed
abbrev pub is_lost : {F : Type 0} → FileDisk F → Bool
is_lost disk = disk.lost

-- a `DiskFault` counts as one failure, and no other answer does
abbrev pub failures_after : Result Unit DiskError → ℕ → ℕ
failures_after (Ok u) failures = failures
failures_after (Err OutOfRange) failures = failures
failures_after (Err DiskFault) failures = one_failure_more failures

-- Once a sync has failed, each call is a fault, and the file is not called.
pub record IsLost {F : Type 0} (old new : FileDisk F) (result : Result Unit DiskError) : Type 0 where
  pub fault : result ≡ Err DiskFault
  pub file : new.file ≡ old.file

-- a disk of which no call has been made yet
pub record IsNew {F : Type 0} (disk : FileDisk F) : Type 0 where
  pub calls : disk.history.calls ≡ []
  pub failures : disk.failures ≡ 0
  pub lost : disk.lost ≡ false

-- the calls that make a blank disk: zeros are written into each sector, in order, and then it is synced
abbrev pub blank_calls : Sectors → List Call
blank_calls sectors = writes 0 sectors (λ k. replicate 512 0) ++ Sync ∷ []

-- an honest disk of so many sectors of zeros, which no stop changes
pub record IsBlank {F : Type 0} (view : F → View) (sectors : Sectors) (disk : FileDisk F) : Type 0 where
  pub honest : (file_view view disk).honest
  pub count : disk.sectors ≡ sectors
  pub zeros : (k : Sector) → k < sectors → sector (view disk.file).reads k ≡ replicate 512 0
  pub durable : (k : Sector) → (view disk.file).pending k ≡ false
