-- Why a file is not taken as a disk.
use Rattle.std.specs.Prelude.{◌≡◌, Bool, true, false, if◌then◌else◌, Option, Some, None}
use Rattle.std.specs.IoError.{error_kind}
use Rattle.std.specs.declared.fs.TryLockError.{TryLockError}
use Rattle.std.specs.declared.fs.TryLockError.TheVariants as lock
use Rattle.std.specs.declared.io.Error.{Error}
use Rattle.std.specs.declared.io.ErrorKind.{ErrorKind}
use Rattle.std.specs.declared.io.ErrorKind.TheVariants.{AlreadyExists, IsADirectory, NotADirectory, NotFound, OutOfMemory, PermissionDenied, QuotaExceeded, ReadOnlyFilesystem, StorageFull}
use Rattle.file_disk.specs.declared.fault.FileFault.{FileFault}
use Rattle.file_disk.specs.declared.fault.FileFault.TheVariants.{DiskFault, NoMemory, NotOpened}
use Rattle.file_disk.specs.declared.fault.OpenCause.{OpenCause}
use Rattle.file_disk.specs.declared.fault.OpenCause.TheVariants.{Exists, Held, Missing, NoSpace, NotAFile, NotAllowed, Other}

-- whether an error reports out of memory
abbrev pub is_memory : ErrorKind → Bool
is_memory OutOfMemory = true
is_memory _ = false

-- this fault, or `NoMemory` where the error reports out of memory
abbrev pub or_memory : FileFault → Error → FileFault
or_memory fault error = if is_memory (error_kind error) then NoMemory else fault

-- why a call that opens or reads a file failed with an error of this kind
abbrev pub open_cause : ErrorKind → OpenCause
open_cause NotFound = Missing
open_cause NotADirectory = Missing
open_cause PermissionDenied = NotAllowed
open_cause ReadOnlyFilesystem = NotAllowed
open_cause IsADirectory = NotAFile
open_cause StorageFull = NoSpace
open_cause QuotaExceeded = NoSpace
open_cause _ = Other

-- why a call that makes a new file failed with an error of this kind
abbrev pub make_cause : ErrorKind → OpenCause
make_cause AlreadyExists = Exists
make_cause kind = open_cause kind

-- the fault for an error of a call that opens a file, or makes a new one
abbrev pub of_opening : Bool → Error → FileFault
of_opening is_new error = or_memory (NotOpened (if is_new then make_cause (error_kind error) else open_cause (error_kind error))) error

-- the fault for a call of a new file that failed with an error of this kind, as the file got its sectors
abbrev pub of_making : ErrorKind → FileFault
of_making StorageFull = NotOpened NoSpace
of_making QuotaExceeded = NotOpened NoSpace
of_making OutOfMemory = NoMemory
of_making _ = DiskFault

-- the fault for what the last failure of a new file was, as it got its sectors
abbrev pub of_last : Option ErrorKind → FileFault
of_last None = DiskFault
of_last (Some kind) = of_making kind

-- the fault for a lock that was refused: another process holds it, or the call failed
abbrev pub of_lock : TryLockError → FileFault
of_lock lock.WouldBlock = NotOpened Held
of_lock (lock.Error error) = of_opening false error

-- it is the fault of a call that failed as it opened a file, or made a new one
abbrev pub IsOfOpening : Bool → FileFault → Type 0
IsOfOpening is_new fault = (error : Error) × (fault ≡ of_opening is_new error)

-- it is the fault of a lock that was refused
abbrev pub IsOfLock : FileFault → Type 0
IsOfLock fault = (error : TryLockError) × (fault ≡ of_lock error)

-- it is the fault of a file of another kind than is wanted: it keeps nothing, or its kind could not be read
abbrev pub IsOfKind : FileFault → Type 0
IsOfKind (NotOpened cause) = ⊥
IsOfKind other = Unit {0}
