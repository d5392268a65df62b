-- What `check --rest` writes: the text of what is left of the register, the lines of a check, and a line on what is left and what is missing.
use Rattle.std.specs.Prelude.{◌≡◌, ◌⊎◌, ℕ, Bool, List, ◌++◌, Option, Some, None, Ok, codes, decimal, is_ok}
use Rattle.centre_core.specs.State.{State}
use Rattle.checkpoint.specs.declared.layout.Layout.{Layout}
use Rattle.checkpoint.specs.declared.side.Side.{Side}
use Rattle.image_rows.specs.Numbers.{Epoch}
use Rattle.recovery.specs.declared.checking.Checked.{Checked}
use Rattle.recovery.specs.declared.fault.StoreFault.{StoreFault}
use Rattle.recovery.specs.declared.fault.StoreFault.TheVariants.{Damaged, NoMemory}
use Rattle.recovery.specs.declared.rest.LeftOut.{LeftOut}
use Rattle.recovery.specs.declared.rest.Rest.{Rest}
use Rattle.recovery.specs.Checking.{IsNoDamage, checked_in, opened_by}
use Rattle.recovery.specs.Label.{layout_in}
use Rattle.recovery.specs.Opening.{Fails}
use Rattle.recovery.specs.Opens.{opens}
use Rattle.recovery.specs.Rests.{AreLaterOnDisk, HasNoRest, IsRestOf}
use Rattle.register_text.specs.declared.dumping.DumpFault.{DumpFault}
use Rattle.register_text.specs.Dump.{register_bytes}
use Rattle.register_text.specs.Passing.{IsUnwritten, IsWritten}
use Rattle.sector_disk.specs.Disk.{View}
use Rattle.sector_disk.specs.Numbers.{Byte, Sector}
use Rattle.served_disk.specs.declared.dumping.DiskDumpFault.{DiskDumpFault}
use Rattle.served_disk.specs.declared.rest.RestReport.{RestReport}
use Rattle.served_disk.specs.declared.dumping.DiskDumpFault.TheVariants as dump
use Rattle.served_disk.specs.Checking.{IsReportedOn}
use Rattle.served_disk.specs.Dumping.{IsDumped}
use Rattle.served_disk.specs.Refusals.{HasReason}
use Rattle.served_disk.specs.Showing.{side_text}

-- ---- the line

-- the side that is left, the epoch of its image, and how many commands its register has accepted
unfoldable pub taken_text : Side → Epoch → ℕ → List Byte
taken_text side epoch count = codes "rest side " ++ side_text side ++ codes " epoch " ++ decimal epoch ++ codes " count " ++ decimal count

-- how many rows of a kind are left out, after these words
unfoldable pub lacking_text : List Byte → ℕ → List Byte
lacking_text words rows = words ++ decimal rows

-- how many rules and radios are left out
unfoldable pub lacking_radios_text : LeftOut → List Byte
lacking_radios_text out = lacking_text (codes " lacks rules ") out.rules ++ lacking_text (codes " radios ") out.radios

-- how many items and stations are left out
unfoldable pub lacking_stations_text : LeftOut → List Byte
lacking_stations_text out = lacking_text (codes " items ") out.items ++ lacking_text (codes " stations ") out.stations

-- how many rows are left out
unfoldable pub left_out_text : LeftOut → List Byte
left_out_text out = lacking_radios_text out ++ lacking_stations_text out

-- the first record that is not applied as a whole, and how many later ones can be read
abbrev pub stop_text : Option Sector → ℕ → List Byte
stop_text None later = codes " records none\n"
stop_text (Some at) later = codes " records from " ++ decimal at ++ codes " and " ++ decimal later ++ codes " later\n"

-- The line of what is left, put together from its parts. `bad` is the first record that is not applied as a whole, and `later` counts the records
-- after it that can be read.
abbrev pub rest_line : Side → Epoch → ℕ → LeftOut → Option Sector → ℕ → List Byte
rest_line side epoch count out bad later = taken_text side epoch count ++ left_out_text out ++ stop_text bad later

-- the line of a disk of which nothing is left
abbrev pub no_rest_line : List Byte
no_rest_line = codes "rest none\n"

-- the line of what is left, as `rest` states it
abbrev pub line_of : {A : Type 0} → Rest A → List Byte
line_of rest = rest_line rest.side rest.epoch rest.register.count rest.left_out rest.stop rest.later

-- the line of what is left, or that of a disk of which nothing is
abbrev pub line_of_found : {A : Type 0} → Option (Rest A) → List Byte
line_of_found None = no_rest_line
line_of_found (Some rest) = line_of rest

-- ---- the report

-- the lines of what a check found and then this line; and whether the disk opens
pub record IsRestReportedOn (A : Type 0) (checked : Checked) (line out : List Byte) (whole : Bool) (disk : View) : Type 0 where
  pub lines : List Byte
  pub well : Bool
  pub reported : IsReportedOn A checked lines well disk
  pub written : out ≡ lines ++ line
  pub judged : whole ≡ is_ok (opened_by checked.a checked.b)

-- The lines of a check and then this line, and whether the disk opens. If the disk is honest, a check of its image finds `checked`, which the lines
-- report.
pub record IsRestReported (A : Type 0) (line out : List Byte) (whole : Bool) (disk : View) : Type 0 where
  pub checked : Checked
  pub found : disk.honest → checked_in A disk.reads ≡ Ok checked
  pub reported : IsRestReportedOn A checked line out whole disk

-- ---- the text

-- Of a writer, `contents` is what is known of its contents. `took` and `flushed` relate the writer before and after it takes bytes or is flushed.
module _ (A : Type 0) {W : Type 0} (contents : W → Option (List Byte)) (took : W → List Byte → W → Type 0) (flushed : W → W → Type 0) (before after : W) where
  -- This is the line of what is left, and the text of the register that is left was written. If the disk is honest, both state what is left of its
  -- image. The records of the side then end at the one in sector `bad`, if there is one, and `later` records can be read after that one.
  pub record IsRestDumped (line : List Byte) (disk : View) : Type 0 where
    pub side : Side
    pub epoch : Epoch
    pub out : LeftOut
    pub register : State
    pub bad : Option Sector
    pub later : ℕ
    pub left : disk.honest → IsRestOf A disk.reads side epoch out register bad
    pub follow : disk.honest → AreLaterOnDisk A disk.reads side bad later
    pub line_is : line ≡ rest_line side epoch register.count out bad later
    pub dumped : IsDumped (contents before) (contents after) register
    pub written : IsWritten took flushed (register_bytes register) before after

  -- Nothing is left, and nothing was written.
  pub record IsNoRestDumped (line : List Byte) (disk : View) : Type 0 where
    pub none : disk.honest → HasNoRest A disk.reads
    pub line_is : line ≡ no_rest_line
    pub same : after ≡ before

  -- what was written for a checked disk: the text of what is left of it, with this line, or nothing
  abbrev pub IsRestText : List Byte → View → Type 0
  IsRestText line disk = IsRestDumped line disk ⊎ IsNoRestDumped line disk

  -- the report on a disk of which this was found, and the text that was written for it, which have the same line
  pub record IsRestWrittenOn (checked : Checked) (report : RestReport A) (disk : View) : Type 0 where
    pub line : List Byte
    pub reported : IsRestReportedOn A checked line report.text.items report.whole disk
    pub text : IsRestText line disk

  -- the report on a disk, and the text that was written for it, which have the same line
  pub record IsRestWritten (report : RestReport A) (disk : View) : Type 0 where
    pub line : List Byte
    pub reported : IsRestReported A line report.text.items report.whole disk
    pub text : IsRestText line disk

-- ---- why none

-- a disk has a label that states a layout
abbrev pub IsLabelled : View → Type 0
IsLabelled old = (layout : Layout) × (layout_in old.reads ≡ Ok layout)

-- Of a writer, `took` and `failed` relate the writer before and after it takes bytes or fails.
module _ (A : Type 0) {W : Type 0} (took : W → List Byte → W → Type 0) (failed : W → W → Type 0) (before after : W) where
  -- the text of what is left was not written, for this reason
  pub record IsRestUnwritten (disk : View) (fault : DumpFault) : Type 0 where
    pub side : Side
    pub epoch : Epoch
    pub out : LeftOut
    pub register : State
    pub bad : Option Sector
    pub left : disk.honest → IsRestOf A disk.reads side epoch out register bad
    pub unwritten : IsUnwritten took failed (register_bytes register) before after fault

  -- The disk was not read, for this reason, and nothing was written; or the disk was read, and the text was not written, for this reason. NoneMet is
  -- what holds of an honest disk if memory ran out while it was read.
  abbrev pub IsRestRefused : Type 0 → View → View → DiskDumpFault → Type 0
  IsRestRefused NoneMet old new (dump.Opening fault) = HasReason IsNoDamage (λ why. Fails why (opens A old.reads)) NoneMet old new fault × (after ≡ before)
  IsRestRefused NoneMet old new (dump.Writing fault) = IsRestUnwritten old fault

  -- why no text was written for a disk that was also checked (`IsRestRefused`): out of memory hides no missing layout
  abbrev pub HasNoRestText : View → View → DiskDumpFault → Type 0
  HasNoRestText old new fault = IsRestRefused (IsLabelled old) old new fault

-- The fault that is reported where damage is no fault. Damage becomes `NoMemory`: a check answers damage only if memory ran out after it.
abbrev pub without_damage : StoreFault → StoreFault
without_damage (Damaged at) = NoMemory
without_damage other = other

-- the faults that writing what is left may have: any fault of writing, and any of reading the disk that is no damage
abbrev pub IsOfRest : DiskDumpFault → Type 0
IsOfRest (dump.Opening fault) = IsNoDamage fault
IsOfRest (dump.Writing fault) = Unit {0}
