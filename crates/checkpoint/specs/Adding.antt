-- Records added to the half of the side that a disk is on.
use Rattle.std.specs.Prelude.{◌<◌, List}
use Rattle.identity.specs.Numbers.{Byte}
use Rattle.sector_disk.specs.Disk.{View}
use Rattle.sector_disk.specs.Run.{IsTornImage}
use Rattle.gated_journal.specs.Settled.{IsSettled}
use Rattle.gated_journal.specs.declared.form.Form.{Form}
use Rattle.checkpoint.specs.Layout.{half_at, half_end}
use Rattle.checkpoint.specs.OnSide.{Base, EachIsOnSide, RecordsAndGate, IsInHalf, IsOnSide, place_after}
use Rattle.checkpoint.specs.declared.layout.Layout.{Layout}
use Rattle.checkpoint.specs.declared.side.Side.{Side}

-- Where every image is on a side, and the closed gate after the side's records is in its half, the half is settled after these
-- records: a record may be added to it.
abbrev pub MayAddRecords : Type 0 → View → Type 0
MayAddRecords A disk =
    (layout : Layout) (side : Side) (form : Form) (base : Base) (held : RecordsAndGate A)
    → EachIsOnSide disk layout side form base held → held.1 < half_end layout side
    → IsSettled disk (place_after layout side form base held) base.1.count held.0

-- An image that has changed nowhere but in the half of the side that every image was on is still on that side, with the records
-- that the half then holds.
abbrev pub StaysWithRecords : Type 0 → View → Type 0
StaysWithRecords A disk =
    (layout : Layout) (side : Side) (form : Form) (base : Base) (held more : RecordsAndGate A) (image : List (List Byte))
    → EachIsOnSide disk layout side form base held → IsTornImage disk (half_at layout side) layout.journal image
    → IsInHalf layout side form base more image → more.1 < half_end layout side → IsOnSide layout side form base more image
