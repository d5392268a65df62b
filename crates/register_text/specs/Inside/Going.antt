-- How far the reading of a text has come, and the writing.
use Rattle.std.specs.Prelude.{◌≡◌, ℕ, ◌≤◌, List, ◌++◌, length, Option, Result}
use Rattle.identity.specs.Numbers.{Byte}
use Rattle.centre_core.specs.State.{State}
use Rattle.image_rows.specs.Loading.{◌>>=◌, Loading}
use Rattle.image_rows.specs.RowReading.{row_in}
use Rattle.register_text.specs.Text.{stated_taken}
use Rattle.register_text.specs.Dump.{HasNoFeed, longest_dump_line, text_from}
use Rattle.register_text.specs.Passing.{HavePassed}
use Rattle.register_text.specs.declared.dumping.DumpFault.{DumpFault}
use Rattle.register_text.specs.declared.dumping.DumpFault.TheVariants.{Write}
use Rattle.register_text.specs.declared.loading.Reading.{Reading}
use Rattle.register_text.specs.declared.load_fault.LoadFault.{LoadFault}
use Rattle.register_text.specs.declared.load_fault.LoadFault.TheVariants as load
use Rattle.register_text.specs.declared.loader.TakeFault.{TakeFault}
use Rattle.register_text.specs.declared.loader.TakeFault.TheVariants as take

-- these may be all bytes so far of a line whose line feed has not come
abbrev pub IsLineSoFar : List Byte → Type 0
IsLineSoFar line = HasNoFeed line × (length line ≤ longest_dump_line)

-- what the text makes, if these bytes of it are left
abbrev pub outcome : {A : Type 0} → Reading A → List Byte → Result State LoadFault
outcome r left = text_from r.number r.loader (r.line.items ++ left)

-- the loading with the row of a sector, if that agrees with what was stated and may come next
abbrev pub stated_from : Option ℕ → Loading → List Byte → Option Loading
stated_from stated l bytes = row_in bytes >>= stated_taken stated l

-- Why the text is not read, if line n is not taken for this reason. A wrong line gives its own fault, never `Memory`.
abbrev pub fault_of_line : ℕ → TakeFault → LoadFault
fault_of_line n take.Memory = load.Memory
fault_of_line n (take.Line cause) = load.Line n cause

-- a fault of a line: it can't be taken, or memory ran out for it
abbrev pub IsOfLine : LoadFault → Type 0
IsOfLine load.Memory = Unit {0}
IsOfLine load.Read = ⊥
IsOfLine (load.Line n cause) = Unit {0}
IsOfLine (load.Cut n) = ⊥

-- The text that was held grew by the bytes `more`. The writer took the first of all these bytes, and the rest is held.
abbrev pub IsHeld : {S : Type 0} → (S → List Byte → S → Type 0) → S → List Byte → S → List Byte → List Byte → Type 0
IsHeld Took old held new holds more = (calls : ℕ) × (taken : List Byte) × HavePassed Took calls old taken new × (taken ++ holds ≡ held ++ more)

-- the fault is `Write`, and a call of the writer failed
abbrev pub IsRefused : {S : Type 0} → (S → S → Type 0) → S → S → DumpFault → Type 0
IsRefused Failed old new is = (is ≡ Write) × Failed old new
