-- What the calls that only read a disk leave of it, and why they fail.
use Rattle.std.specs.Prelude.{◌≡◌, ◌<◌, IfErr, IsErrOf, Result}
use Rattle.sector_disk.specs.Disk.{View}
use Rattle.sector_disk.specs.Effects.{OnlyReads}
use Rattle.sector_disk.specs.Numbers.{Sector, Sectors}
use Rattle.recovery.specs.declared.fault.StoreFault.{StoreFault}
use Rattle.recovery.specs.declared.fault.StoreFault.TheVariants.{BadGeometry, Broken, Damaged, DiskFault, EpochsUsedUp, NoMemory, Unformatted, Unready}

-- The disk is only read, whatever the call answers. The call fails only with a fault of which `IsReason` holds.
pub record ReadsOrFails {T : Type 0} (IsReason : StoreFault → Type 0) (old new : View) (result : Result T StoreFault) : Type 0 where
  pub kinds : IfErr result IsReason
  pub disk : OnlyReads old new (IsErrOf result DiskFault)

-- a fault of reading the label: a damaged one is no label
abbrev pub IsOfLabel : StoreFault → Type 0
IsOfLabel Unformatted = Unit {0}
IsOfLabel BadGeometry = Unit {0}
IsOfLabel (Damaged at) = ⊥
IsOfLabel DiskFault = Unit {0}
IsOfLabel Broken = ⊥
IsOfLabel NoMemory = ⊥
IsOfLabel EpochsUsedUp = ⊥
IsOfLabel Unready = ⊥

-- a fault of reading one of so many sectors without memory
abbrev pub IsOfSector : Sectors → StoreFault → Type 0
IsOfSector sectors Unformatted = ⊥
IsOfSector sectors BadGeometry = ⊥
IsOfSector sectors (Damaged at) = at < sectors
IsOfSector sectors DiskFault = Unit {0}
IsOfSector sectors Broken = ⊥
IsOfSector sectors NoMemory = ⊥
IsOfSector sectors EpochsUsedUp = ⊥
IsOfSector sectors Unready = ⊥

-- a fault of reading rows or records, all of which are in so many sectors
abbrev pub IsOfRowsOrRecords : Sectors → StoreFault → Type 0
IsOfRowsOrRecords sectors Unformatted = ⊥
IsOfRowsOrRecords sectors BadGeometry = ⊥
IsOfRowsOrRecords sectors (Damaged at) = at < sectors
IsOfRowsOrRecords sectors DiskFault = Unit {0}
IsOfRowsOrRecords sectors Broken = ⊥
IsOfRowsOrRecords sectors NoMemory = Unit {0}
IsOfRowsOrRecords sectors EpochsUsedUp = ⊥
IsOfRowsOrRecords sectors Unready = ⊥

-- why the commands of the record in this sector are not played
abbrev pub IsOfRecord : Sector → StoreFault → Type 0
IsOfRecord at Unformatted = ⊥
IsOfRecord at BadGeometry = ⊥
IsOfRecord at (Damaged s) = s ≡ at
IsOfRecord at DiskFault = ⊥
IsOfRecord at Broken = ⊥
IsOfRecord at NoMemory = Unit {0}
IsOfRecord at EpochsUsedUp = ⊥
IsOfRecord at Unready = ⊥

-- The fault where no side counts: `Damaged`, and its sector is below 3. `chosen` gives sector 1 or 2, the roots of A and B.
abbrev pub IsOfRoots : StoreFault → Type 0
IsOfRoots Unformatted = ⊥
IsOfRoots BadGeometry = ⊥
IsOfRoots (Damaged at) = at < 3
IsOfRoots DiskFault = ⊥
IsOfRoots Broken = ⊥
IsOfRoots NoMemory = ⊥
IsOfRoots EpochsUsedUp = ⊥
IsOfRoots Unready = ⊥
