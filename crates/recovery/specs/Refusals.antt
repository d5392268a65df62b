-- Why a call of a store may be refused.
use Rattle.recovery.specs.declared.fault.StoreFault.{StoreFault}
use Rattle.recovery.specs.declared.fault.StoreFault.TheVariants.{BadGeometry, Broken, Damaged, DiskFault, EpochsUsedUp, NoMemory, Unformatted, Unready}

-- What a commit may be refused for. Other calls report the rest: a format, an opening or a check what is wrong with a disk, and a
-- checkpoint or a desk that the epochs are used up.
abbrev pub IsOfCommit : StoreFault → Type 0
IsOfCommit Unformatted = ⊥
IsOfCommit BadGeometry = ⊥
IsOfCommit (Damaged at) = ⊥
IsOfCommit DiskFault = Unit {0}
IsOfCommit Broken = Unit {0}
IsOfCommit NoMemory = Unit {0}
IsOfCommit EpochsUsedUp = ⊥
IsOfCommit Unready = Unit {0}

-- What a desk's commit may be refused for. It makes a checkpoint if a record would not fit, so it is never `Unready`, but the
-- epochs may be used up.
abbrev pub IsOfDesk : StoreFault → Type 0
IsOfDesk Unformatted = ⊥
IsOfDesk BadGeometry = ⊥
IsOfDesk (Damaged at) = ⊥
IsOfDesk DiskFault = Unit {0}
IsOfDesk Broken = Unit {0}
IsOfDesk NoMemory = Unit {0}
IsOfDesk EpochsUsedUp = Unit {0}
IsOfDesk Unready = ⊥

-- What a checkpoint may be refused for. It takes no memory.
abbrev pub IsOfCheckpoint : StoreFault → Type 0
IsOfCheckpoint Unformatted = ⊥
IsOfCheckpoint BadGeometry = ⊥
IsOfCheckpoint (Damaged at) = ⊥
IsOfCheckpoint DiskFault = Unit {0}
IsOfCheckpoint Broken = Unit {0}
IsOfCheckpoint NoMemory = ⊥
IsOfCheckpoint EpochsUsedUp = Unit {0}
IsOfCheckpoint Unready = ⊥
