-- The calls of the disk that a format, a checkpoint and a commit make.
use Rattle.std.specs.Prelude.{◌+◌, ◌<◌, Bool, true, false, List, [], ◌∷◌, ◌++◌, Option, None, Some, nat_le}
use Rattle.std.specs.Borrow.{Bor}
use Rattle.identity.specs.Numbers.{Byte}
use Rattle.sector_disk.specs.declared.record.Call.{Call}
use Rattle.sector_disk.specs.declared.record.Call.TheVariants.{Sync, Write}
use Rattle.centre_core.specs.Asked.{Asked}
use Rattle.centre_core.specs.State.{State}
use Rattle.image_rows.specs.Numbers.{Epoch}
use Rattle.image_rows.specs.Rows.{HeaderRow}
use Rattle.image_rows.specs.RowText.{padded, sector_of}
use Rattle.image_rows.specs.Worked.{bare}
use Rattle.gated_journal.specs.declared.place.Place.{Place}
use Rattle.gated_journal.specs.Calls.{append_both_calls, append_calls, closed_gate, open_gate}
use Rattle.gated_journal.specs.Record.{data_size, record_text}
use Rattle.gated_journal.specs.Settled.{room_of, text_at}
use Rattle.checkpoint.specs.Calls.{close_calls_by, image_calls_by, is_root_open, switch_calls}
use Rattle.checkpoint.specs.Progress.{next_calls}
use Rattle.checkpoint.specs.declared.layout.Layout.{Layout}
use Rattle.checkpoint.specs.declared.side.Side.{Side}
use Rattle.checkpoint.specs.declared.side.Side.TheVariants as side
use Rattle.checkpoint.specs.Label.{label_text}
use Rattle.checkpoint.specs.Layout.{half_at, label_at, other_of, root_at, slot_at}
use Rattle.recovery.specs.declared.ongoing.Ongoing.{Ongoing}
use Rattle.recovery.specs.UnderWay.{ends_with}

-- the sector of the one row that an empty register has, of epoch 1
abbrev pub first_header : List Byte
first_header = sector_of (HeaderRow (bare 1))

-- the sector of a label
abbrev pub label_sector : Layout → List Byte
label_sector layout = padded (label_text layout)

-- the header and the root of side A are written, the root of side B and both first gates closed
abbrev pub side_calls : Layout → List Call
side_calls layout =
    Write (slot_at layout side.A) first_header
    ∷ Write (root_at side.A) open_gate
    ∷ Write (root_at side.B) closed_gate
    ∷ Write (half_at layout side.A) closed_gate
    ∷ Write (half_at layout side.B) closed_gate
    ∷ Sync
    ∷ []

-- the sides are written and synced as by `side_calls`, then the label is written and synced
abbrev pub format_calls : Layout → List Call
format_calls layout = side_calls layout ++ Write label_at (label_sector layout) ∷ Sync ∷ []

-- ---- a register that is kept

-- does a record of all these commands fit at the next gate?
abbrev pub fits_in : {B : Type 0} (A : Type 0) → Place → List (Bor (Asked B)) → Bool
fits_in A place commands = nat_le (data_size (text_at A place commands)) (room_of place)

-- a record of all these commands does not fit
abbrev pub LacksRoom : {B : Type 0} (A : Type 0) → Place → List (Bor (Asked B)) → Type 0
LacksRoom A place commands = room_of place < data_size (text_at A place commands)

-- These commands as one record at the next gate, and at that of the other half too if a checkpoint is under way. Without
-- commands there is no record.
abbrev pub record_calls : {A : Type 0} → Place → Option (Ongoing A) → List (Asked A) → List Call
record_calls place ongoing [] = []
record_calls place None (c ∷ cs) = append_calls place.next (record_text place.form place.count (c ∷ cs))
record_calls place (Some it) (c ∷ cs) =
    append_both_calls place.next (record_text place.form place.count (c ∷ cs))
    it.journal.next (record_text it.journal.form it.journal.count (c ∷ cs))

-- these commands as one record at the next gate of each of two places
abbrev pub both_calls : {B : Type 0} (A : Type 0) → Place → Place → List (Bor (Asked B)) → List Call
both_calls A x y commands = append_both_calls x.next (text_at A x commands) y.next (text_at A y commands)

-- after a checkpoint's last row (`true`) its rows are synced, and the other side's root is opened and synced; else nothing
abbrev pub end_calls : Side → Bool → List Call
end_calls side true = Sync ∷ switch_calls (other_of side)
end_calls side false = []

module _ (layout : Layout) (side : Side) where
  module _ (epoch : Epoch) where
    -- the next rows of a checkpoint that is under way are written to the other side
    abbrev pub rows_calls : {A : Type 0} → Ongoing A → List Call
    rows_calls it = next_calls layout (other_of side) (epoch + 1, it.register) it.progress.written

    -- After a record: the next rows of the checkpoint that is under way, and the switch if they end the image. If none is, and
    -- one begins (`begins`), the other side is closed, whose root was read as open (`was_open`) or as closed.
    abbrev pub ongoing_calls : {A : Type 0} → Option (Ongoing A) → Bool → Bool → List Call
    ongoing_calls (Some it) begins was_open = rows_calls it ++ end_calls side (ends_with (epoch + 1) it.register it.progress.written)
    ongoing_calls None true was_open = close_calls_by layout (other_of side) was_open
    ongoing_calls None false was_open = []

    -- the calls of a commit that keeps these commands: a record of them, then `ongoing_calls`; without commands there are none
    abbrev pub commit_calls_by : {A : Type 0} → Place → Option (Ongoing A) → List (Asked A) → Bool → Bool → List Call
    commit_calls_by place ongoing [] begins was_open = []
    commit_calls_by place ongoing (c ∷ cs) begins was_open = record_calls place ongoing (c ∷ cs) ++ ongoing_calls ongoing begins was_open

  module _ (epoch : Epoch) (state : State) where
    -- the register's image is written to the other side, whose root was read as open (`true`) or as closed, with the next epoch,
    -- and that side is made to count
    abbrev pub checkpoint_calls_by : Bool → List Call
    checkpoint_calls_by was_open = image_calls_by layout (other_of side) was_open (epoch + 1, state) ++ switch_calls (other_of side)

    -- the calls that make room for a record: none if it fits (`true`), else those of a checkpoint
    abbrev pub room_calls_by : Bool → Bool → List Call
    room_calls_by was_open true = []
    room_calls_by was_open false = checkpoint_calls_by was_open

    -- the calls that make room for a record, where the sectors read so: `reads` states whether the other side's root is open
    abbrev pub room_calls : List (List Byte) → Bool → List Call
    room_calls reads fits = room_calls_by (is_root_open (other_of side) reads) fits
