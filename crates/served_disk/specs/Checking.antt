-- What `check` prints of a disk. A side that is whole or unused has one line. A damaged side has a line for each damaged sector, and one for what
-- the side loses. The last line is for the whole disk.
use Rattle.std.specs.Prelude.{◌≡◌, ◌||◌, Bool, true, false, not, List, ◌++◌, Ok, Err, codes, decimal}
use Rattle.std.specs.List.{flat_map}
use Rattle.sector_disk.specs.Disk.{View}
use Rattle.sector_disk.specs.Numbers.{Byte, Sector}
use Rattle.checkpoint.specs.declared.side.Side.{Side}
use Rattle.checkpoint.specs.declared.side.Side.TheVariants as side
use Rattle.recovery.specs.declared.checking.Checked.{Checked}
use Rattle.recovery.specs.declared.checking.SideState.{SideState}
use Rattle.recovery.specs.declared.checking.SideState.TheVariants as state
use Rattle.recovery.specs.declared.damaged.Damage.{Damage}
use Rattle.recovery.specs.declared.damaged.DamageKind.{DamageKind}
use Rattle.recovery.specs.declared.damaged.DamageKind.TheVariants as kind
use Rattle.recovery.specs.declared.damaged.Reason.{Reason}
use Rattle.recovery.specs.declared.damaged.Reason.TheVariants as reason
use Rattle.recovery.specs.declared.figures.Figures.{Figures}
use Rattle.recovery.specs.Checking.{Taken, checked_in, is_damaged, opened_by}
use Rattle.recovery.specs.Damage.{IsOfState, damage_in}
use Rattle.served_disk.specs.Losses.{loss_line}
use Rattle.served_disk.specs.Showing.{figures_line, side_text}

-- what a sector is to hold
abbrev pub kind_text : DamageKind → List Byte
kind_text kind.Header = codes "header"
kind_text kind.Rule = codes "row of a rule"
kind_text kind.Radio = codes "row of a radio"
kind_text kind.Item = codes "row of an item"
kind_text kind.Station = codes "row of a station"
kind_text (kind.Record commands) = codes "record of " ++ decimal commands ++ codes " commands"
kind_text kind.Gate = codes "last gate"

-- what is wrong with a sector
abbrev pub reason_text : Reason → List Byte
reason_text reason.Unreadable = codes "unreadable"
reason_text reason.BeyondLimits = codes "beyond the limits"
reason_text reason.OutOfPlace = codes "out of place"
reason_text reason.Refused = codes "command refused"

-- the line of a whole side
abbrev pub whole_line : Side → Figures → List Byte
whole_line side figures = codes "side " ++ side_text side
    ++ codes " epoch " ++ decimal figures.epoch ++ codes " count " ++ decimal figures.count ++ codes " gate " ++ decimal figures.gate ++ codes "\n"

-- the beginning of a damaged sector's line
unfoldable pub sector_text : Side → Sector → List Byte
sector_text side at = codes "side " ++ side_text side ++ codes " damaged sector " ++ decimal at ++ codes ": "

-- the end of a damaged sector's line
unfoldable pub reason_end : Reason → List Byte
reason_end reason = codes ", " ++ reason_text reason ++ codes "\n"

-- the line of a damaged sector
unfoldable pub damage_line : Side → Damage → List Byte
damage_line side damage = sector_text side damage.sector ++ kind_text damage.kind ++ reason_end damage.reason

-- the line of an unused or whole side; of a damaged side, a line for each damaged sector and one for what the side loses
abbrev pub side_lines : Side → SideState → List Damage → List Byte
side_lines side state.Unused damaged = codes "side " ++ side_text side ++ codes " unused\n"
side_lines side (state.Whole figures) damaged = whole_line side figures
side_lines side (state.Damaged epoch at) damaged = flat_map (damage_line side) damaged ++ loss_line side damaged

-- whether a side is damaged
abbrev pub has_damage : Checked → Bool
has_damage checked = is_damaged checked.a || is_damaged checked.b

-- the word for a disk that opens, by whether a side is damaged. If one is, nothing is lost: the next checkpoint writes that side anew.
abbrev pub opening_word : Bool → List Byte
opening_word true = codes "kept"
opening_word false = codes "ok"

-- the last line, by whether a side is damaged and by what opening makes of the disk
abbrev pub last_line : Bool → Taken → List Byte
last_line damaged (Ok figures) = figures_line (opening_word damaged) figures
last_line damaged (Err at) = codes "lost sector " ++ decimal at ++ codes "\n"

-- the disk opens, and no side is damaged
abbrev pub is_well : Bool → Taken → Bool
is_well damaged (Ok figures) = not damaged
is_well damaged (Err at) = false

-- all lines of a check: those of side A, those of side B, and the last line
abbrev pub checked_text : Checked → List Damage → List Damage → List Byte
checked_text checked a b =
    side_lines side.A checked.a a ++ side_lines side.B checked.b b ++ last_line (has_damage checked) (opened_by checked.a checked.b)

-- The lines of what a check found, and whether the disk is well. `a` and `b` are the damaged sectors of the sides. Those of a damaged side begin
-- with the sector that its state names.
pub record IsReported (checked : Checked) (a b : List Damage) (out : List Byte) (well : Bool) : Type 0 where
  pub begins_a : IsOfState checked.a a
  pub begins_b : IsOfState checked.b b
  pub written : out ≡ checked_text checked a b
  pub judged : well ≡ is_well (has_damage checked) (opened_by checked.a checked.b)

-- The lines of what a check found, and whether the disk is well. After the check each side was read again for its damaged sectors, `a` and `b`. If
-- the disk is honest, these are the damaged sectors of its image.
pub record IsReportedOn (A : Type 0) (checked : Checked) (out : List Byte) (well : Bool) (disk : View) : Type 0 where
  pub a : List Damage
  pub b : List Damage
  pub damage_a : disk.honest → a ≡ damage_in A checked.layout side.A disk.reads checked.a
  pub damage_b : disk.honest → b ≡ damage_in A checked.layout side.B disk.reads checked.b
  pub reported : IsReported checked a b out well

-- The lines of a check, and whether the disk is well. If the disk is honest, a check of its image finds `checked`, which the lines report.
pub record IsReportedBy (A : Type 0) (out : List Byte) (well : Bool) (disk : View) : Type 0 where
  pub checked : Checked
  pub found : disk.honest → checked_in A disk.reads ≡ Ok checked
  pub reported : IsReportedOn A checked out well disk
