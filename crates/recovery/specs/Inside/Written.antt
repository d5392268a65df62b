-- The image of a register that is written to the other side, to which the disk is then switched.
use Rattle.std.specs.Prelude.{◌≡◌, ◌+◌}
use Rattle.sector_disk.specs.Disk.{View}
use Rattle.sector_disk.specs.Run.{LeavesOnly}
use Rattle.centre_core.specs.State.{State}
use Rattle.image_rows.specs.Numbers.{Epoch}
use Rattle.gated_journal.specs.declared.form.Form.{Form}
use Rattle.gated_journal.specs.declared.form.Form.TheVariants.{Numbered}
use Rattle.checkpoint.specs.declared.layout.Layout.{Layout}
use Rattle.checkpoint.specs.declared.side.Side.{Side}
use Rattle.checkpoint.specs.Layout.{other_of}
use Rattle.checkpoint.specs.OnSide.{Base, RecordsAndGate, InEach, IsEither, IsOnSide, fresh}

module _ (A : Type 0) (layout : Layout) (side : Side) (epoch : Epoch) (state : State) (old new : View) where
  -- a stop leaves what was on this side, or the image on the other side
  abbrev pub LeavesEitherSide : Type 0
  LeavesEitherSide =
      (form : Form) (base : Base) (held : RecordsAndGate A) → base.0 ≡ epoch → old.honest → InEach old (IsOnSide layout side form base held)
      → LeavesOnly old new (IsEither layout side form Numbered base (epoch + 1, state) held (fresh layout (other_of side)))

  -- each stop leaves the image on the other side
  abbrev pub MovesToOtherSide : Type 0
  MovesToOtherSide =
      (form : Form) (base : Base) (held : RecordsAndGate A) → base.0 ≡ epoch → old.honest → InEach old (IsOnSide layout side form base held)
      → InEach new (IsOnSide {A = A} layout (other_of side) Numbered (epoch + 1, state) (fresh layout (other_of side)))
