-- The lines and the exit statuses of faults, and which fault is reported for the fault of a part.
use Rattle.std.specs.Prelude.{◌≡◌, ℕ, List, [], ◌++◌, MatchResult, None, Option, Result, Some, codes, decimal}
use Rattle.std.specs.Borrow.{Bor}
use Rattle.console.specs.declared.running.RunFault.{RunFault}
use Rattle.console.specs.declared.running.RunFault.TheVariants as run
use Rattle.sector_disk.specs.Numbers.{Byte}
use Rattle.file_disk.specs.declared.fault.FileFault.{FileFault}
use Rattle.file_disk.specs.declared.fault.FileFault.TheVariants as file
use Rattle.file_disk.specs.declared.fault.OpenCause.{OpenCause}
use Rattle.file_disk.specs.declared.fault.OpenCause.TheVariants as why
use Rattle.recovery.specs.declared.fault.StoreFault.{StoreFault}
use Rattle.recovery.specs.declared.fault.StoreFault.TheVariants as store
use Rattle.register_text.specs.declared.cause.Cause.{Cause}
use Rattle.register_text.specs.declared.cause.Cause.TheVariants as cause
use Rattle.register_text.specs.declared.dumping.DumpFault.TheVariants.{Memory, Write}
use Rattle.register_text.specs.declared.load_fault.LoadFault.{LoadFault}
use Rattle.register_text.specs.declared.load_fault.LoadFault.TheVariants as load
use Rattle.settings.specs.declared.reading.SettingsFault.{SettingsFault}
use Rattle.settings.specs.declared.reading.SettingsFault.TheVariants as settings
use Rattle.served_disk.specs.declared.dumping.DiskDumpFault.{DiskDumpFault}
use Rattle.served_disk.specs.declared.dumping.DiskDumpFault.TheVariants as dump
use Rattle.served_disk.specs.declared.fault.Fault.{Fault}
use Rattle.served_disk.specs.declared.port_names.PortNames.{PortNames}
use Rattle.served_disk.specs.declared.fault.Fault.TheVariants as fault

-- the line for the cause of a file's fault; for `Other` there is none
abbrev pub open_cause_text : OpenCause → List Byte
open_cause_text why.Held = codes "cause: held by another process\n"
open_cause_text why.Exists = codes "cause: exists\n"
open_cause_text why.Missing = codes "cause: no such file\n"
open_cause_text why.NotAllowed = codes "cause: not allowed\n"
open_cause_text why.NotAFile = codes "cause: not a file\n"
open_cause_text why.NoSpace = codes "cause: no space\n"
open_cause_text why.Other = []

-- what is wrong with a line of a dump
abbrev pub dump_cause_text : Cause → List Byte
dump_cause_text cause.Head = codes "first line"
dump_cause_text cause.Spelling = codes "spelling"
dump_cause_text cause.Place = codes "place"

-- which line of a dump can't be taken
abbrev pub dump_line_number_text : ℕ → List Byte
dump_line_number_text line = codes "fault: dump line " ++ decimal line ++ codes ": "

-- which line of a dump can't be taken, and what is wrong with it
abbrev pub dump_line_text : ℕ → List Byte → List Byte
dump_line_text line what = dump_line_number_text line ++ (what ++ codes "\n")

-- the line of a fault of the file of this name
abbrev pub named_text : List Byte → List Byte
named_text name = codes "fault: file " ++ name ++ codes "\n"

-- the line of a fault; after that of a file comes the line of its cause
abbrev pub fault_text : Fault → List Byte
fault_text fault.Settings = codes "fault: settings\n"
fault_text (fault.File name cause) = named_text name.now ++ open_cause_text cause
fault_text fault.Unformatted = codes "fault: unformatted\n"
fault_text fault.BadGeometry = codes "fault: bad geometry\n"
fault_text (fault.Damaged sector) = codes "fault: damaged sector " ++ decimal sector ++ codes "\n"
fault_text fault.Device = codes "fault: device\n"
fault_text fault.Memory = codes "fault: memory\n"
fault_text fault.Epochs = codes "fault: epochs\n"
fault_text (fault.Twice name) = codes "fault: " ++ name.now ++ codes " is named twice\n"
fault_text fault.TooMany = codes "fault: more files than stations\n"
fault_text (fault.NotServed station) = codes "fault: station " ++ decimal station ++ codes " of --orders is not served\n"
fault_text fault.HalfLeftOut = codes "fault: only one of IN and OUT is -\n"
fault_text (fault.DumpLine line cause) = dump_line_text line (dump_cause_text cause)
fault_text (fault.DumpCut line) = dump_line_text line (codes "cut")

-- 2 for files and orders that no run may have, 3 for settings and a dump, 4 for a file; 5 for what is on a disk, for the device and for memory
abbrev pub fault_status : Fault → ℕ
fault_status fault.Settings = 3
fault_status (fault.File name cause) = 4
fault_status fault.Unformatted = 5
fault_status fault.BadGeometry = 5
fault_status (fault.Damaged sector) = 5
fault_status fault.Device = 5
fault_status fault.Memory = 5
fault_status fault.Epochs = 5
fault_status (fault.Twice name) = 2
fault_status fault.TooMany = 2
fault_status (fault.NotServed station) = 2
fault_status fault.HalfLeftOut = 2
fault_status (fault.DumpLine line cause) = 3
fault_status (fault.DumpCut line) = 3

-- the fault names this file, and has this cause
abbrev pub Names : Fault → List Byte → OpenCause → Type 0
Names (fault.File name cause) text given = (name.now ≡ text) × (cause ≡ given)
Names other text given = ⊥

-- P holds of a call's value; its only fault is `Memory`
abbrev pub OrMemory : {X : Type 0} → Result X Fault → (X → Type 0) → Type 0
OrMemory result P = MatchResult result P (λ e. e ≡ fault.Memory)

-- ---- the fault that is reported

-- the fault that is reported for a fault of reading a settings text
abbrev pub of_settings : SettingsFault → Fault
of_settings settings.BadSettings = fault.Settings
of_settings settings.NoMemory = fault.Memory

-- the fault that is reported for a fault of a disk in the file of this name
abbrev pub IsOfFile : FileFault → List Byte → Fault → Type 0
IsOfFile (file.NotOpened cause) name is = Names is name cause
IsOfFile file.DiskFault name is = is ≡ fault.Device
IsOfFile file.NoMemory name is = is ≡ fault.Memory
IsOfFile file.KeepsNothing name is = is ≡ fault.Unformatted

-- the fault that is reported for a fault of a register on a disk
abbrev pub of_store : StoreFault → Fault
of_store store.Unformatted = fault.Unformatted
of_store store.BadGeometry = fault.BadGeometry
of_store (store.Damaged sector) = fault.Damaged sector
of_store store.DiskFault = fault.Device
of_store store.Broken = fault.Device
of_store store.NoMemory = fault.Memory
of_store store.EpochsUsedUp = fault.Epochs
of_store store.Unready = fault.Device

-- the fault that is reported for a fault of printing the register on a disk as text
abbrev pub IsOfDump : DiskDumpFault → Fault → Type 0
IsOfDump (dump.Opening store_fault) is = is ≡ of_store store_fault
IsOfDump (dump.Writing Memory) is = is ≡ fault.Memory
IsOfDump (dump.Writing Write) is = Names is (codes "-") why.Other

-- the fault that is reported for a fault of reading the dump in the file of this name
abbrev pub IsOfLoad : LoadFault → List Byte → Fault → Type 0
IsOfLoad load.Memory name is = is ≡ fault.Memory
IsOfLoad load.Read name is = Names is name why.Other
IsOfLoad (load.Line line cause) name is = is ≡ fault.DumpLine line cause
IsOfLoad (load.Cut line) name is = is ≡ fault.DumpCut line

-- the fault that is reported for a fault of writing a station's answers: to a file; or into memory, which then ran out
abbrev pub IsOfWriting : Option (Bor (List Byte)) → Fault → Type 0
IsOfWriting (Some name) is = Names is name.now why.Other
IsOfWriting None is = is ≡ fault.Memory

-- the fault that is reported for a fault of the run of a station with these files
abbrev pub IsOfRun : RunFault → PortNames → Fault → Type 0
IsOfRun run.Read names is = Names is names.input.now why.Other
IsOfRun run.Write names is = IsOfWriting names.output is
IsOfRun run.NoMemory names is = is ≡ fault.Memory
