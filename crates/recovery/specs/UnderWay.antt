-- A checkpoint that is written between commits: what of it is on the disk, and where each commit leaves it.
use Rattle.std.specs.Prelude.{◌≡◌, ℕ, ◌+◌, ◌*◌, ◌-◌, ◌<◌, ◌≤◌, Bool, List, IfSome, Option, Some, length, nat_eq}
use Rattle.sector_disk.specs.Disk.{View, sector}
use Rattle.sector_disk.specs.Run.{LeavesOnly}
use Rattle.centre_core.specs.State.{State}
use Rattle.centre_core.specs.History.{after}
use Rattle.centre_core.specs.Histories.{IsHistory}
use Rattle.image_rows.specs.Numbers.{Epoch}
use Rattle.image_rows.specs.Rows.{last_epoch, rows_of}
use Rattle.gated_journal.specs.declared.form.Form.TheVariants.{Numbered}
use Rattle.gated_journal.specs.declared.place.Place.{Place}
use Rattle.gated_journal.specs.Half.{RecordAt, IsClosed}
use Rattle.checkpoint.specs.declared.layout.Layout.{Layout}
use Rattle.checkpoint.specs.declared.side.Side.{Side}
use Rattle.checkpoint.specs.Calls.{row_sector}
use Rattle.checkpoint.specs.Layout.{half_at, half_end, other_of, root_at, slot_at}
use Rattle.checkpoint.specs.Progress.{IsProgress, written_after}
use Rattle.checkpoint.specs.OnSide.{Base, RecordsAndGate, InEach, IsInHalf}
use Rattle.recovery.specs.declared.ongoing.Ongoing.{Ongoing}
use Rattle.recovery.specs.OpensTo.{OpensTo, commands_of}
use Rattle.recovery.specs.Stored.{IsStored}

-- So many rows of a register's image are on this side. In each image that a stop may leave its root is closed, and its half holds
-- these records. The rows read as they were written.
pub record IsBegun {A : Type 0} (layout : Layout) (side : Side) (base : Base) (written : ℕ) (held : RecordsAndGate A) (disk : View) : Type 0 where
  pub root : InEach disk (λ image. IsClosed (sector image (root_at side)))
  pub half : InEach disk (IsInHalf layout side Numbered base held)
  pub gate : held.1 < half_end layout side
  pub rows : (k : ℕ) → k < written → sector disk.reads (slot_at layout side + k) ≡ row_sector base k
  pub few : written ≤ length (rows_of base.0 base.1)

module _ (A : Type 0) where
  -- The side that does not count has the rows written so far, with the next epoch, of the register as it was at the start. Its
  -- records have every command accepted since.
  pub record IsOngoing (layout : Layout) (side : Side) (epoch : Epoch) (ongoing : Ongoing A) (state : State) (disk : View) : Type 0 where
    pub entries : List (RecordAt A)
    pub begun : IsBegun layout (other_of side) (epoch + 1, ongoing.register) ongoing.progress.written (entries, ongoing.journal.next) disk
    pub accepted : IsHistory ongoing.register (commands_of entries)
    pub made : state ≡ after ongoing.register (commands_of entries)
    pub counts : ongoing.journal.count ≡ state.count

  -- The register is on the side that counts. If a checkpoint is under way, the other side has it as far as it is written.
  pub record IsKept (layout : Layout) (side : Side) (epoch : Epoch) (journal : Place) (ongoing : Option (Ongoing A)) (state : State)
      (disk : View) : Type 0 where
    pub stored : IsStored A layout side epoch journal state disk
    pub under_way : IfSome ongoing (λ it. IsOngoing layout side epoch it state disk)

-- What a switch does to a register that is on the disk, with this checkpoint under way whose rows are all written.
module _ (A : Type 0) (layout : Layout) (side : Side) (epoch : Epoch) (ongoing : Ongoing A) (old new : View) where
  -- a stop at any moment of the switch leaves an image that opens to the register
  abbrev pub SwitchLeaves : Type 0
  SwitchLeaves =
      (journal : Place) (state : State) → old.honest → IsKept A layout side epoch journal (Some ongoing) state old
      → LeavesOnly old new (OpensTo A state)

  -- after the switch each stop leaves the register on the other side
  abbrev pub SwitchStores : Type 0
  SwitchStores =
      (journal : Place) (state : State) → old.honest → IsKept A layout side epoch journal (Some ongoing) state old
      → IsStored A layout (other_of side) (epoch + 1) ongoing.journal state new

-- Each half has so many sectors. So few of the other one are used, against those of the current one, that it does not fill
-- before the current one.
abbrev pub IsAhead : ℕ → Place → Place → Type 0
IsAhead sectors current other = 4 * (other.next - other.first) + 3 * sectors ≤ 6 * (current.next - current.first)

-- what a checkpoint under way must be, where `current` is the journal of the side that counts, and the register has accepted
-- `count` commands
pub record BelongsTo {A : Type 0} (layout : Layout) (side : Side) (epoch : Epoch) (current : Place) (count : ℕ) (ongoing : Ongoing A) : Type 0 where
  pub first : ongoing.journal.first ≡ half_at layout (other_of side)
  pub end : ongoing.journal.end ≡ half_end layout (other_of side)
  pub up : ongoing.journal.first ≤ ongoing.journal.next
  pub form : ongoing.journal.form ≡ Numbered
  pub ahead : IsAhead layout.journal current ongoing.journal
  pub counts : ongoing.journal.count ≤ count
  pub epoch_is : ongoing.progress.epoch ≡ epoch + 1
  pub progress : IsProgress (epoch + 1) ongoing.register ongoing.progress
  pub limits : ongoing.register.registered.limits ≡ layout.limits
  pub more : epoch < last_epoch

-- a checkpoint may begin if half of the journal's sectors are used and the epoch is not the last one
pub record MayBegin (layout : Layout) (epoch : Epoch) (journal : Place) : Type 0 where
  pub used : layout.journal ≤ 2 * (journal.next - journal.first)
  pub more : epoch < last_epoch

-- do the next rows, after so many that are written, end the image?
abbrev pub ends_with : Epoch → State → ℕ → Bool
ends_with epoch state written = nat_eq (written_after epoch state written) (length (rows_of epoch state))
