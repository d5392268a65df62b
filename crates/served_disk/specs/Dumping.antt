-- What is written for a dump, and why none is.
use Rattle.std.specs.Prelude.{◌≡◌, ◌⊎◌, List, Option, codes}
use Rattle.std.specs.Io.KnownBytes.{Appends}
use Rattle.centre_core.specs.State.{IsState, State}
use Rattle.centre_core.specs.StateRanges.{StateInRange}
use Rattle.sector_disk.specs.Disk.{View}
use Rattle.sector_disk.specs.Numbers.{Byte}
use Rattle.file_disk.specs.declared.fault.OpenCause.TheVariants.{Other}
use Rattle.recovery.specs.Opening.{IsOfOpening as IsOfStoreOpening}
use Rattle.recovery.specs.OpensTo.{OpensTo}
use Rattle.register_text.specs.declared.dumping.DumpFault.{DumpFault}
use Rattle.register_text.specs.Dump.{register_bytes}
use Rattle.register_text.specs.Passing.{IsUnwritten, IsWritten}
use Rattle.served_disk.specs.declared.dumping.DiskDumpFault.{DiskDumpFault}
use Rattle.served_disk.specs.declared.dumping.DiskDumpFault.TheVariants as dump
use Rattle.served_disk.specs.declared.fault.Fault.{Fault}
use Rattle.served_disk.specs.Faults.{IsOfDump, Names}
use Rattle.served_disk.specs.Making.{IsOfOpening}
use Rattle.served_disk.specs.Refusals.{IsUnopened}

-- The text of this register was written once, after what the writer held. `before` and `after` are what is known of the writer's contents.
pub record IsDumped (before after : Option (List Byte)) (s : State) : Type 0 where
  pub state : IsState s
  pub ranges : StateInRange s
  pub written : Appends before after (register_bytes s)

-- Of a writer, `contents` is what is known of its contents. `took` and `flushed` relate the writer before and after it takes bytes or is flushed.
module _ (A : Type 0) {W : Type 0} (contents : W → Option (List Byte)) (took : W → List Byte → W → Type 0) (flushed : W → W → Type 0) (before after : W) where
  -- The text of a register was written: so say the writer's calls, and its contents where they are known. If the disk is honest, the register is
  -- the one that the disk's image opens to.
  pub record IsDumpedBy (disk : View) : Type 0 where
    pub register : State
    pub kept : disk.honest → OpensTo A register disk.reads
    pub dumped : IsDumped (contents before) (contents after) register
    pub written : IsWritten took flushed (register_bytes register) before after

-- Of a writer, `took` and `failed` relate the writer before and after it takes bytes or fails.
module _ (A : Type 0) {W : Type 0} (took : W → List Byte → W → Type 0) (failed : W → W → Type 0) (before after : W) where
  -- The text of a register was not written, for this reason. If the disk is honest, the register is the one that the disk's image opens to.
  pub record IsUnwrittenBy (disk : View) (fault : DumpFault) : Type 0 where
    pub register : State
    pub kept : disk.honest → OpensTo A register disk.reads
    pub unwritten : IsUnwritten took failed (register_bytes register) before after fault

  -- the disk was not opened, for this reason, and nothing was written; or the disk was opened, and its register's text was not written, for this reason
  abbrev pub IsUndumped : View → View → DiskDumpFault → Type 0
  IsUndumped old new (dump.Opening fault) = IsUnopened A old new fault × (after ≡ before)
  IsUndumped old new (dump.Writing fault) = IsUnwrittenBy old fault

-- A dump was refused, and this fault is reported for the reason. Why relates the disk's views before and after to the reason.
abbrev pub ReportsDump : (View → View → DiskDumpFault → Type 0) → View → View → Fault → Type 0
ReportsDump Why old new fault = (reason : DiskDumpFault) × Why old new reason × IsOfDump reason fault

-- the faults that a dump may have: any fault of writing, and those that opening the disk may have
abbrev pub IsOfDumping : DiskDumpFault → Type 0
IsOfDumping (dump.Opening fault) = IsOfStoreOpening fault
IsOfDumping (dump.Writing fault) = Unit {0}

-- why the register on the disk in a file of this name was not dumped: it was not opened, memory ran out, or what prints it failed
abbrev pub IsOfDiskDump : List Byte → Fault → Type 0
IsOfDiskDump name fault = IsOfOpening name fault ⊎ Names fault (codes "-") Other
