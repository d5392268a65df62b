-- Why a file is not taken as a disk: which call failed, and what it answered.
use Rattle.std.specs.Prelude.{◌≡◌, ◌≢◌, ◌⊎◌, ℕ, ◌≤◌, ◌*◌, ◌/◌, ◌^◌, Bool, true, false, List, Option, Result, Ok, Err}
use Rattle.std.specs.IoError.{error_kind}
use Rattle.std.specs.declared.fs.TryLockError.{TryLockError}
use Rattle.std.specs.declared.io.Error.{Error}
use Rattle.std.specs.declared.io.ErrorKind.{ErrorKind}
use Rattle.sector_disk.specs.Numbers.{Byte, Bytes, Sectors}
use Rattle.sector_disk.specs.Disk.{View}
use Rattle.file_disk.specs.Fault.{of_last, of_lock, of_making, of_opening, or_memory}
use Rattle.file_disk.specs.File.{IsGivenUp}
use Rattle.file_disk.specs.declared.fault.FileFault.{FileFault}
use Rattle.file_disk.specs.declared.fault.FileFault.TheVariants.{DiskFault, KeepsNothing}

-- What the calls of a file system answer, for files of one kind. Only the calls themselves show that one of these holds.
pub record Answers (F : Type 0) : Type 1 where
  -- opening the file of a name, or making it as a new one
  pub opened : Bool → List Byte → Result F Error → Type 0
  -- locking a file
  pub locked : F → Result Unit TryLockError → Type 0
  -- asking whether a file keeps what is written
  pub judged : F → Result Bool Error → Type 0
  -- giving a file this length, and making that durable
  pub sized : F → Bytes → Result Unit Error → Type 0
  -- making the entry of a file of this name in its folder durable
  pub entered : List Byte → Result Unit Error → Type 0
  -- of what kind the last failure of a file was, if it is known
  pub last : F → Option ErrorKind

-- ---- a file

-- The length of a file could not be read: the fault is `DiskFault`, or `NoMemory` where the error reports out of memory.
pub record IsUnmeasured (measured : Result Bytes Error → Type 0) (fault : FileFault) : Type 0 where
  pub error : Error
  pub answered : measured (Err error)
  pub reported : fault ≡ or_memory DiskFault error

-- a file was told to have a length of so many whole sectors
pub record IsMeasured (measured : Result Bytes Error → Type 0) (sectors : Sectors) : Type 0 where
  pub bytes : Bytes
  pub answered : measured (Ok bytes)
  pub whole : sectors ≡ bytes / 512

-- Zeros were not written into each sector of a file, or not made durable: the file was given up. The fault is this one for how it was left.
pub record IsNotFilled {F : Type 0} (view : F → View) (turns : F → ℕ) (fault_of : F → FileFault) (file : F) (fault : FileFault) : Type 0 where
  pub left : F
  pub given_up : IsGivenUp view turns file left
  pub reported : fault ≡ fault_of left

-- Why no blank disk was made over a file: its length could not be read, or it was given up as it was filled.
abbrev pub IsNotBlank : {F : Type 0} → (F → View) → (F → ℕ) → (F → Result Bytes Error → Type 0) → F → FileFault → Type 0
IsNotBlank view turns measured file fault = IsUnmeasured (measured file) fault ⊎ IsNotFilled view turns (λ left. DiskFault) file fault

-- ---- the file of a name

-- Given are what the calls of a file system answer, and a name.
module _ {F : Type 0} (answers : Answers F) (name : List Byte) where
  -- The file was not opened, or not made: the call answered an error, and the fault is that for this error.
  pub record IsUnopened (is_new : Bool) (fault : FileFault) : Type 0 where
    pub error : Error
    pub answered : answers.opened is_new name (Err error)
    pub reported : fault ≡ of_opening is_new error

  -- The file was opened or made, and not locked: the call answered an error, and the fault is that for this error.
  pub record IsUnlocked (is_new : Bool) (fault : FileFault) : Type 0 where
    pub file : F
    pub opened : answers.opened is_new name (Ok file)
    pub error : TryLockError
    pub answered : answers.locked file (Err error)
    pub reported : fault ≡ of_lock error

  -- the file was opened or made, and it was locked
  pub record HasOpened (is_new : Bool) (file : F) : Type 0 where
    pub opened : answers.opened is_new name (Ok file)
    pub locked : answers.locked file (Ok tt)

  -- the file was opened or made, and locked, and this is so of it
  pub record OnOpened (is_new : Bool) (P : F → Type 0) : Type 0 where
    pub file : F
    pub opened : HasOpened is_new file
    pub so : P file

  -- the entry of the file in its folder was not made durable
  pub record IsUnentered (fault : FileFault) : Type 0 where
    pub error : Error
    pub answered : answers.entered name (Err error)
    pub reported : fault ≡ of_making (error_kind error)

-- Given is what the calls of a file system answer.
module _ {F : Type 0} (answers : Answers F) where
  -- whether a file keeps what is written could not be read
  pub record IsUnjudged (file : F) (fault : FileFault) : Type 0 where
    pub error : Error
    pub answered : answers.judged file (Err error)
    pub reported : fault ≡ or_memory DiskFault error

  -- a file keeps nothing
  pub record HasKeptNothing (file : F) (fault : FileFault) : Type 0 where
    pub answered : answers.judged file (Ok false)
    pub reported : fault ≡ KeepsNothing

  -- why a file is of a kind that is not taken: it keeps nothing, or its kind could not be read
  abbrev pub IsOfOtherKind : F → FileFault → Type 0
  IsOfOtherKind file fault = IsUnjudged file fault ⊎ HasKeptNothing file fault

  -- a file was not given this length, or that was not made durable
  pub record IsUnsized (file : F) (bytes : Bytes) (fault : FileFault) : Type 0 where
    pub error : Error
    pub answered : answers.sized file bytes (Err error)
    pub reported : fault ≡ of_making (error_kind error)

-- so many sectors are more bytes than a file can have
pub record IsTooLong (sectors : Sectors) (fault : FileFault) : Type 0 where
  pub long : 2 ^ 64 ≤ 512 * sectors
  pub reported : fault ≡ DiskFault

-- a file has another number of sectors than was asked for
pub record IsOtherLength (measured : Result Bytes Error → Type 0) (sectors : Sectors) (fault : FileFault) : Type 0 where
  pub found : Sectors
  pub measured_so : IsMeasured measured found
  pub other : found ≢ sectors
  pub reported : fault ≡ DiskFault

-- Given are what asking for the length of a file answers, what the calls of a file system answer, and a name.
module _ {F : Type 0} (measured : F → Result Bytes Error → Type 0) (answers : Answers F) (name : List Byte) where
  -- a file of this name was opened and locked, it keeps what is written, and its length is that of so many sectors
  pub record IsAdopted (file : F) (sectors : Sectors) : Type 0 where
    pub opened : HasOpened answers name false file
    pub keeps : answers.judged file (Ok true)
    pub measured_so : IsMeasured (measured file) sectors

  -- Why the file of this name was not taken as a disk as it is: it was not opened, or not locked; or it is of a kind that is not taken, or its
  -- length could not be read.
  abbrev pub IsNotAdopted : FileFault → Type 0
  IsNotAdopted fault = (IsUnopened answers name false fault ⊎ IsUnlocked answers name false fault)
      ⊎ OnOpened answers name false (λ file. IsOfOtherKind answers file fault ⊎ IsUnmeasured (measured file) fault)

  -- A new file of this name was made and locked. It got the length of so many sectors. That, and its entry in the folder, were made durable.
  pub record IsCreated (sectors : Sectors) : Type 0 where
    pub file : F
    pub opened : HasOpened answers name true file
    pub sized : answers.sized file (512 * sectors) (Ok tt)
    pub measured_so : IsMeasured (measured file) sectors
    pub entered : answers.entered name (Ok tt)

  -- Why a new file did not become a disk of so many sectors: it did not get its length, or that could not be read; or it was given up as it was
  -- filled, or it has another length.
  abbrev pub IsUnfinished : (F → View) → (F → ℕ) → Sectors → FileFault → F → Type 0
  IsUnfinished view turns sectors fault file = (IsUnsized answers file (512 * sectors) fault ⊎ IsUnmeasured (measured file) fault)
      ⊎ (IsNotFilled view turns (λ left. of_last (answers.last left)) file fault ⊎ IsOtherLength (measured file) sectors fault)

  -- Why no new file of this name became a disk of so many sectors: they are too many, or it was not made, or not locked; or it was not finished, or
  -- its entry in the folder was not made durable.
  abbrev pub IsNotCreated : (F → View) → (F → ℕ) → Sectors → FileFault → Type 0
  IsNotCreated view turns sectors fault = (IsTooLong sectors fault ⊎ (IsUnopened answers name true fault ⊎ IsUnlocked answers name true fault))
      ⊎ (OnOpened answers name true (IsUnfinished view turns sectors fault) ⊎ IsUnentered answers name fault)
