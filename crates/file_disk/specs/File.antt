-- The file that a disk is on. Its whole sectors are modelled as those of a disk, and each call moves some bytes of one sector.
use Rattle.std.specs.Prelude.{◌≡◌, ◌⊎◌, ℕ, ◌+◌, ◌-◌, ◌*◌, ◌^◌, ◌≤◌, ◌==◌, min, Bool, true, false, List, take, drop, if◌then◌else◌, Result, Ok, Err, IfOk}
use Rattle.std.specs.IoError.{error_kind}
use Rattle.std.specs.declared.io.Error.{Error}
use Rattle.std.specs.declared.io.ErrorKind.{ErrorKind}
use Rattle.std.specs.declared.io.ErrorKind.TheVariants.{Interrupted}
use Rattle.sector_disk.specs.Numbers.{Byte, Sector, Sectors, Bytes}
use Rattle.sector_disk.specs.Disk.{View, HasFailed, HasWritten, sector}
use Rattle.sector_disk.specs.Filling.{HasFilled}
use Rattle.sector_disk.specs.Run.{HasOnlyRead}
use Rattle.sector_disk.specs.declared.disk.DiskError.{DiskError}
use Rattle.sector_disk.specs.declared.disk.DiskError.TheVariants.{DiskFault}

-- whether an error reports that the call was interrupted
abbrev pub is_interrupted : ErrorKind → Bool
is_interrupted Interrupted = true
is_interrupted _ = false

-- how many bytes a call has moved: none where it was interrupted; any other error, and no byte at all, is a fault
abbrev pub moved : Result Bytes Error → Result Bytes DiskError
moved (Ok n) = if n == 0 then Err DiskFault else Ok n
moved (Err e) = if is_interrupted (error_kind e) then Ok 0 else Err DiskFault

-- any error is a fault
abbrev pub ended : Result Unit Error → Result Unit DiskError
ended (Ok u) = Ok u
ended (Err e) = Err DiskFault

-- the calls counted, after one more
abbrev pub one_more : ℕ → ℕ
one_more turns = min (turns + 1) (2 ^ 64 - 1)

-- so many calls were made between old and new, or as many as can be counted
abbrev pub HaveTurned : ℕ → ℕ → ℕ → Type 0
HaveTurned n old new = (old + n ≤ new) ⊎ (new ≡ 2 ^ 64 - 1)

-- the most calls of the file for a sector
abbrev pub most_calls : ℕ
most_calls = 1024

-- a call of the file has failed, or 1,024 of them were not enough
abbrev pub HasGivenUp : View → View → ℕ → ℕ → Type 0
HasGivenUp old new turns_before turns_after = HasFailed old new ⊎ HaveTurned most_calls turns_before turns_after

-- Between old and new a file was given up: a call of it has failed, or 1,024 of them were not enough for one sector.
pub record IsGivenUp {F : Type 0} (view : F → View) (turns : F → ℕ) (old new : F) : Type 0 where
  -- the file before the last sector or sync
  pub mid : F
  pub later : (view old).failures ≤ (view mid).failures
  pub given_up : HasGivenUp (view mid) (view new) (turns mid) (turns new)

-- A read gives bytes of the sector, from the byte `from` on, and changes no image.
pub record HasReadPart (old new : View) (at : Sector) (from : Bytes) (bytes : List Byte) (result : Result Bytes DiskError) : Type 0 where
  pub only_read : HasOnlyRead old new
  pub given : IfOk result (λ n. take n bytes ≡ take n (drop from (sector old.reads at)))

-- A write puts bytes into the sector, from the byte `from` on. Those before them stay. Unless it fails, what it has changed is pending.
pub record HasWrittenPart (old new : View) (at : Sector) (from : Bytes) (bytes : List Byte) (result : Result Bytes DiskError) : Type 0 where
  -- the rest of the file is as after a write of the sector that failed
  pub rest : HasWritten old new at bytes (Err DiskFault)
  pub before : IfOk result (λ n. take from (sector new.reads at) ≡ take from (sector old.reads at))
  pub written : IfOk result (λ n. take n (drop from (sector new.reads at)) ≡ take n bytes)
  pub marked : IfOk result (λ n. (new.pending at ≡ true) ⊎ ((n ≡ 0) × (sector new.reads at ≡ sector old.reads at)))

-- a run of so many sectors is written if all its bytes are
abbrev pub run_written : Sectors → Result Bytes DiskError → Result Unit DiskError
run_written count (Ok n) = if n == 512 * count then Ok tt else Err DiskFault
run_written count (Err e) = Err e

-- A write of whole sectors, from the sector `at` on. Unless it has written all their bytes, these sectors may hold anything.
abbrev pub HasWrittenSectors : View → View → Sector → Sectors → List Byte → Result Bytes DiskError → Type 0
HasWrittenSectors old new at count bytes result = HasFilled old new at count (λ k. take 512 (drop (512 * k) bytes)) (run_written count result)
