-- What an image of a disk opens to: a register with its side and epoch, or the first fault.
use Rattle.std.specs.Prelude.{ℕ, ◌+◌, ◌==◌, List, [], ◌∷◌, Option, Some, None, Result, Ok, Err, nat_lt, if◌then◌else◌}
use Rattle.identity.specs.Numbers.{Byte}
use Rattle.sector_disk.specs.Numbers.{Sector}
use Rattle.sector_disk.specs.Disk.{sector}
use Rattle.centre_core.specs.Asked.{Asked}
use Rattle.centre_core.specs.State.{State}
use Rattle.centre_core.specs.History.{accepts, next}
use Rattle.image_rows.specs.Numbers.{Epoch}
use Rattle.gated_journal.specs.Half.{RecordAt, Half, half_of, is_open}
use Rattle.checkpoint.specs.declared.layout.Layout.{Layout}
use Rattle.checkpoint.specs.declared.side.Side.{Side}
use Rattle.checkpoint.specs.declared.side.Side.TheVariants as side
use Rattle.checkpoint.specs.Layout.{half_at, half_end, root_at, slot_at}
use Rattle.checkpoint.specs.OnSide.{Base, RecordsAndGate, slot_epoch, slot_form, slot_in}
use Rattle.recovery.specs.declared.fault.StoreFault.{StoreFault}
use Rattle.recovery.specs.declared.fault.StoreFault.TheVariants.{Damaged}
use Rattle.recovery.specs.Label.{layout_in}

infixl 10 ◌>>=◌
-- one step of opening, and the steps after it, up to the first fault
abbrev pub ◌>>=◌ : {X Y : Type 0} → Result X StoreFault → (X → Result Y StoreFault) → Result Y StoreFault
(Ok x) >>= go = go x
(Err fault) >>= go = Err fault

-- ---- the sides

-- a header's epoch; a sector that is no header is at fault
abbrev pub headed : Sector → Option Epoch → Result (Option Epoch) StoreFault
headed at None = Err (Damaged at)
headed at (Some epoch) = Ok (Some epoch)

-- the epoch of a side, if its root is open
unfoldable pub side_at : Layout → Side → List (List Byte) → Result (Option Epoch) StoreFault
side_at layout side image = if is_open (sector image (root_at side)) then headed (slot_at layout side) (slot_epoch layout side image) else Ok None

-- The side that counts, by the epoch of each one with an open root: the one of the greater epoch, or the only one. Root A is at
-- fault if there is none, root B if both have the same epoch.
abbrev pub chosen : Option Epoch → Option Epoch → Result Side StoreFault
chosen None None = Err (Damaged (root_at side.A))
chosen (Some a) None = Ok side.A
chosen None (Some b) = Ok side.B
chosen (Some a) (Some b) = if a == b then Err (Damaged (root_at side.B)) else if nat_lt a b then Ok side.B else Ok side.A

-- the side that counts: of those with an open root the one of the greater epoch
unfoldable pub side_in : Layout → List (List Byte) → Result Side StoreFault
side_in layout image = do
  a ← side_at layout side.A image
  b ← side_at layout side.B image
  chosen a b

-- ---- the image in a side's slot

-- the register that a slot's rows make; the first bad row is at fault
abbrev pub placed : Sector → Result Base ℕ → Result Base StoreFault
placed at (Ok base) = Ok base
placed at (Err place) = Err (Damaged (at + place))

-- the image of a register in a side's slot
unfoldable pub base_in : Layout → Side → List (List Byte) → Result Base StoreFault
base_in layout side image = placed (slot_at layout side) (slot_in layout side image)

-- ---- the records in a side's half

-- the state after the record in this sector; if there is none, a command of the record is not accepted, and it is at fault
abbrev pub taken : Sector → Option State → Result State StoreFault
taken at None = Err (Damaged at)
taken at (Some s) = Ok s

module _ {A : Type 0} where
  -- the state after commands, if each is accepted in its turn
  unfoldable pub run : State → List (Asked A) → Option State
  run s [] = Some s
  run s (c ∷ cs) = if accepts s c then run (next s c) cs else None

  -- the state after the commands of records; the first record with a command that is not accepted is at fault
  unfoldable pub played : State → List (RecordAt A) → Result State StoreFault
  played s [] = Ok s
  played s (entry ∷ entries) = do
    t ← taken entry.0 (run s entry.1)
    played t entries

  -- the records that a half holds, and its first closed gate; the first bad sector is at fault
  abbrev pub held_by : Half A → Result (RecordsAndGate A) StoreFault
  held_by (Ok held) = Ok held
  held_by (Err at) = Err (Damaged at)

-- ---- the whole

-- What an image opens to: the layout, the side that counts, the epoch of its image, the first closed gate of its half, and the
-- state.
pub record Opening : Type 0 where
  pub layout : Layout
  pub side : Side
  pub epoch : Epoch
  pub next : Sector
  pub state : State

-- what an image opens to, put together from its parts
abbrev pub opening : Layout → Side → Epoch → Sector → State → Opening
opening layout side epoch gate state = record { layout = layout; side = side; epoch = epoch; next = gate; state = state }

-- the state that was reached, and the first closed gate
abbrev pub Reached : Type 0
Reached = State × ℕ

-- The state after s and the commands of the records of a half, or of the rest of one, and the first closed gate. A record that
-- can't be read is the fault, even if a command before it is not accepted.
abbrev pub played_from : {A : Type 0} → State → Half A → Result Reached StoreFault
played_from s half = do
  held ← held_by half
  t ← played s held.0
  Ok (t, held.1)

module _ (A : Type 0) where
  -- the state after the commands of a side's half, read in the form that its slot states and numbered from the state's count on
  unfoldable pub played_by : Layout → Side → State → List (List Byte) → Result Reached StoreFault
  played_by layout side s image = played_from s (half_of {A = A} (slot_form layout side image) s.count image (half_at layout side) (half_end layout side))

  -- what an image of a disk opens to from this side: the rows in its slot, then the records in its half
  unfoldable pub opens_by : Layout → Side → List (List Byte) → Result Opening StoreFault
  opens_by layout side image = do
    base ← base_in layout side image
    end ← played_by layout side base.1 image
    Ok (opening layout side base.0 end.1 end.0)

  -- what the image of a disk opens to, or the first fault
  unfoldable pub opens : List (List Byte) → Result Opening StoreFault
  opens image = do
    layout ← layout_in image
    side ← side_in layout image
    opens_by layout side image
