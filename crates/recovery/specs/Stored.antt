-- A register that is kept on a disk: what is there in each image that a stop may leave.
use Rattle.std.specs.Prelude.{◌≡◌, ℕ, List}
use Rattle.sector_disk.specs.Disk.{View}
use Rattle.centre_core.specs.State.{State}
use Rattle.centre_core.specs.History.{after}
use Rattle.centre_core.specs.Histories.{IsHistory}
use Rattle.image_rows.specs.Numbers.{Epoch}
use Rattle.gated_journal.specs.declared.form.Form.TheVariants.{Numbered}
use Rattle.gated_journal.specs.declared.place.Place.{Place}
use Rattle.gated_journal.specs.Half.{RecordAt}
use Rattle.checkpoint.specs.declared.layout.Layout.{Layout}
use Rattle.checkpoint.specs.declared.side.Side.{Side}
use Rattle.checkpoint.specs.Layout.{half_at, half_end}
use Rattle.checkpoint.specs.OnSide.{InEach, IsOnSide}
use Rattle.recovery.specs.OpensTo.{commands_of}

-- the place of the next record in a side's half after a new image: at its first gate, numbered, after so many accepted commands
abbrev pub fresh_place : Layout → Side → ℕ → Place
fresh_place layout side count = record { first = half_at layout side; end = half_end layout side; next = half_at layout side; form = Numbered; count = count }

-- There are one base, of this epoch, and one list of records, so that each image that a stop may leave is on this side with
-- both. The records are of the journal's form and end at its next gate. The base accepts their commands one after the other,
-- and `state` is the state after them. The journal counts as many commands as the state.
pub record IsStored (A : Type 0) (layout : Layout) (side : Side) (epoch : Epoch) (journal : Place) (state : State) (disk : View) : Type 0 where
  pub base : State
  pub entries : List (RecordAt A)
  pub each : InEach disk (IsOnSide layout side journal.form (epoch, base) (entries, journal.next))
  pub accepted : IsHistory base (commands_of entries)
  pub made : state ≡ after base (commands_of entries)
  pub counts : journal.count ≡ state.count
