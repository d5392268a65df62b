-- A call that is given the name of a file: it opens or makes the file as a disk, and goes on with that disk.
use Rattle.std.specs.Prelude.{◌≡◌, ◌⊎◌, List, Option, Some, None, Result, Ok, Err}
use Rattle.sector_disk.specs.Disk.{View}
use Rattle.sector_disk.specs.Numbers.{Byte, Sectors}
use Rattle.file_disk.specs.declared.disk.FileDisk.{FileDisk}
use Rattle.file_disk.specs.declared.fault.FileFault.{FileFault}
use Rattle.file_disk.specs.Disk.{IsNew, file_view}
use Rattle.centre_core.specs.State.{State}
use Rattle.checkpoint.specs.Layout.{disk_size}
use Rattle.checkpoint.specs.declared.layout.Layout.{Layout}
use Rattle.recovery.specs.Lives.{StoreView}
use Rattle.std.specs.declared.alloc.Global.{Global}
use Rattle.served_disk.specs.declared.fault.Fault.{Fault}
use Rattle.served_disk.specs.declared.counted.SyncedDisk.{SyncedDisk}
use Rattle.served_disk.specs.declared.refused.Refused.{Refused}
use Rattle.served_disk.specs.Calls.{IsBlankOf}
use Rattle.served_disk.specs.Faults.{IsOfFile}
use Rattle.served_disk.specs.Making.{IsMadeFor}
use Rattle.served_disk.specs.Refusals.{IsUnmade}
use Rattle.served_disk.specs.Synced.{HasOpenedSynced}

-- ---- either

-- `given` is what opening or making the file may answer. Begins is what then holds of the file's disk, before any further call.
module _ {F : Type 0} (given : Result (FileDisk F) FileFault → Type 0) (Begins : FileDisk F → Type 0) where
  -- the file gave a disk, and P holds of it
  pub record OnDisk (P : FileDisk F → Type 0) : Type 0 where
    pub disk : FileDisk F
    pub gives : given (Ok disk)
    pub begins : Begins disk
    pub done : P disk

  -- the file gave no disk, for a reason for which this fault is reported, and no disk comes back
  pub record IsNoDisk (name : List Byte) (fault : Fault) (back : Option (FileDisk F)) : Type 0 where
    pub reason : FileFault
    pub gives : given (Err reason)
    pub reported : IsOfFile reason name fault
    pub none : back ≡ None

  -- the file gave a disk, a call of it was refused, and it comes back as the call left it
  pub record IsBack (P : FileDisk F → FileDisk F → Fault → Type 0) (fault : Fault) (back : Option (FileDisk F)) : Type 0 where
    pub old : FileDisk F
    pub new : FileDisk F
    pub gives : given (Ok old)
    pub begins : Begins old
    pub refused : P old new fault
    pub returned : back ≡ Some new

  -- The file gave no disk, for a reason that is reported, and none comes back; or it gave one, a call of it was refused, and that disk comes back as
  -- the call left it.
  abbrev pub IsRefused : List Byte → (FileDisk F → FileDisk F → Fault → Type 0) → Fault → Option (FileDisk F) → Type 0
  IsRefused name P fault back = IsNoDisk name fault back ⊎ IsBack P fault back

-- ---- a file that is there

-- Given are a name, what opening the file of a name may answer, and what such a file holds.
module _ {F : Type 0} (view : F → View) (adopted : List Byte → Result (FileDisk F) FileFault → Type 0) (name : List Byte) where
  -- the file of this name was opened as a disk, which had had no call, and P holds of the disk as it was then
  abbrev pub InFile : (View → Type 0) → Type 0
  InFile P = OnDisk (adopted name) IsNew (λ disk. P (file_view view disk))

  -- The file of this name was not opened as a disk, for a reason that is reported; or it was opened, a call of its disk was refused for this reason,
  -- and the disk comes back as the call left it.
  abbrev pub IsRefusedIn : (View → View → Fault → Type 0) → Refused F → Type 0
  IsRefusedIn Why e = IsRefused (adopted name) IsNew name (λ old new. Why (file_view view old) (file_view view new)) e.fault e.disk

  -- The file of this name was opened as a disk, which had had no call. If that disk is honest, the store is on it, its syncs are counted, and the
  -- store has the register that the disk opens to.
  abbrev pub IsStoreIn : StoreView Global (SyncedDisk (FileDisk F)) → Type 0
  IsStoreIn store = OnDisk (adopted name) IsNew (λ disk. (file_view view disk).honest → HasOpenedSynced (file_view view) disk store)

-- ---- a new file

-- no file of this name was made with this many sectors, for a reason that is reported, and no disk comes back
abbrev pub IsNotMade : {F : Type 0} → (List Byte → Sectors → Result (FileDisk F) FileFault → Type 0) → List Byte → Sectors → Refused F → Type 0
IsNotMade created name sectors e = IsNoDisk (created name sectors) (IsBlankOf sectors) name e.fault e.disk

-- Given are a name and a layout, what making a file of a name and of a number of sectors may answer, and what such a file holds.
module _ {F : Type 0} (view : F → View) (created : List Byte → Sectors → Result (FileDisk F) FileFault → Type 0) (name : List Byte) (layout : Layout) where
  -- A file of this name was made as a blank disk of the layout's sectors. If the blank disk is honest, so is this disk, which opens to this
  -- register.
  abbrev pub IsMadeIn : State → FileDisk F → Type 0
  IsMadeIn register disk = OnDisk (created name (disk_size layout)) (IsBlankOf (disk_size layout))
      (λ blank. (file_view view blank).honest → IsMadeFor Global layout register (file_view view disk))

  -- No file of this name was made as a blank disk of the layout's sectors, for a reason that is reported; or one was made, its device failed before
  -- the disk was ready, and the disk comes back as it was left.
  abbrev pub IsUnmadeIn : Refused F → Type 0
  IsUnmadeIn e = IsRefused (created name (disk_size layout)) (IsBlankOf (disk_size layout)) name
      (λ old new. IsUnmade (file_view view old) (file_view view new)) e.fault e.disk
