-- What a file system answers, when the file of a name is opened or made as a disk. `measured` says what asking a file for its length answers, and
-- `answers` what the other calls of the file system answer.
use Rattle.std.specs.Prelude.{ℕ, List, Result, IfErr, IfOk}
use Rattle.std.specs.declared.io.Error.{Error}
use Rattle.sector_disk.specs.Disk.{View}
use Rattle.sector_disk.specs.Numbers.{Byte, Bytes, Sectors}
use Rattle.file_disk.specs.Disk.{file_of}
use Rattle.file_disk.specs.Reasons.{Answers, IsAdopted, IsCreated, IsNotAdopted, IsNotCreated}
use Rattle.file_disk.specs.declared.disk.FileDisk.{FileDisk}
use Rattle.file_disk.specs.declared.fault.FileFault.{FileFault}

-- Opening the file of this name gives a disk on it, which is locked and keeps what is written; or none, for a reason.
abbrev pub Adopts : {F : Type 0} → (F → Result Bytes Error → Type 0) → Answers F → List Byte → Result (FileDisk F) FileFault → Type 0
Adopts measured answers name given =
    IfOk given (λ disk. IsAdopted measured answers name (file_of disk) disk.sectors) × IfErr given (IsNotAdopted measured answers name)

-- Making a file of this name gives a disk of so many sectors, in a file that is locked and durable; or none, for a reason. `view` is what a
-- file holds, and `turns` how many calls were made on it.
abbrev pub Creates : {F : Type 0} → (F → View) → (F → ℕ) → (F → Result Bytes Error → Type 0) → Answers F → List Byte → Sectors
    → Result (FileDisk F) FileFault → Type 0
Creates view turns measured answers name sectors given =
    IfOk given (λ disk. IsCreated measured answers name sectors) × IfErr given (IsNotCreated measured answers name view turns sectors)
