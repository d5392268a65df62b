-- Which register is loaded from a dump, and why none is.
use Rattle.std.specs.Prelude.{◌≡◌, List, Option, Some, Result, Ok, Err}
use Rattle.file_disk.specs.declared.fault.OpenCause.TheVariants.{Other}
use Rattle.registration.specs.declared.limits.Limits.{Limits}
use Rattle.centre_core.specs.State.{IsState, State}
use Rattle.centre_core.specs.StateRanges.{StateInRange}
use Rattle.sector_disk.specs.Numbers.{Byte}
use Rattle.register_text.specs.Dump.{register_bytes, text_read}
use Rattle.register_text.specs.declared.load_fault.LoadFault.{LoadFault}
use Rattle.register_text.specs.declared.load_fault.LoadFault.TheVariants as load
use Rattle.served_disk.specs.declared.fault.Fault.{Fault}
use Rattle.served_disk.specs.declared.fault.Fault.TheVariants as fault
use Rattle.served_disk.specs.Faults.{IsOfLoad}

-- what a reader gives is the text of a register, which is this one
pub record IsDumpOf (s : State) (given : Option (List Byte)) : Type 0 where
  pub state : IsState s
  pub ranges : StateInRange s
  pub text : given ≡ Some (register_bytes s)

-- the register is the one that is read, under these limits, from a text for which P holds
abbrev pub IsReadIn : (List Byte → Type 0) → Limits → State → Type 0
IsReadIn P limits register = (text : List Byte) × P text × (text_read limits text ≡ Ok register)

-- why no register is loaded from the file of this name: a line can't be taken, the dump is cut, the file was not read, or memory ran out
abbrev pub IsOfLoading : List Byte → Fault → Type 0
IsOfLoading name (fault.DumpLine line cause) = Unit {0}
IsOfLoading name (fault.DumpCut line) = Unit {0}
IsOfLoading name (fault.File text cause) = (text.now ≡ name) × (cause ≡ Other)
IsOfLoading name fault.Memory = Unit {0}
IsOfLoading name other = ⊥

-- `made` is what the dump's text is read as. If the fault is that of a line or of a cut dump, `made` is that fault. Other faults state nothing of the
-- text.
abbrev pub IsReadAs : Result State LoadFault → Fault → Type 0
IsReadAs made (fault.DumpLine line cause) = made ≡ Err (load.Line line cause)
IsReadAs made (fault.DumpCut line) = made ≡ Err (load.Cut line)
IsReadAs made other = Unit {0}

-- P holds of a fault of reading the file of this name, and this fault is reported for it
abbrev pub ReportsLoad : (LoadFault → Type 0) → List Byte → Fault → Type 0
ReportsLoad P name fault = (reason : LoadFault) × P reason × IsOfLoad reason name fault
