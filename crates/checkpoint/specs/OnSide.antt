-- What the image of a disk opens to: the side that counts, the register in its slot, and the records in its half.
use Rattle.std.specs.Prelude.{◌≡◌, ◌⊎◌, zero, suc, ◌+◌, ◌<◌, ◌≤◌, ◌==◌, false, List, [], ◌∷◌, length, slice_index, Option, Some, None, Ok, Result}
use Rattle.std.specs.Prelude.{if◌then◌else◌}
use Rattle.identity.specs.Numbers.{Byte}
use Rattle.sector_disk.specs.Numbers.{Sector, Sectors}
use Rattle.sector_disk.specs.Disk.{View, IsImageOf, sector}
use Rattle.sector_disk.specs.Run.{LeavesOnly}
use Rattle.centre_core.specs.State.{State}
use Rattle.image_rows.specs.Numbers.{Epoch}
use Rattle.image_rows.specs.Rows.{Row, HeaderRow, RuleRow, RadioRow, MailRow, ServedRow}
use Rattle.image_rows.specs.RowReading.{row_in}
use Rattle.image_rows.specs.Image.{slot_of}
use Rattle.image_rows.specs.RowText.{header_tag}
use Rattle.gated_journal.specs.declared.form.Form.{Form}
use Rattle.gated_journal.specs.declared.form.Form.TheVariants.{Numbered, Plain}
use Rattle.gated_journal.specs.declared.place.Place.{Place}
use Rattle.gated_journal.specs.Half.{RecordAt, IsClosed, IsOpen, counted, half_of}
use Rattle.checkpoint.specs.declared.layout.Layout.{Layout}
use Rattle.checkpoint.specs.declared.side.Side.{Side}
use Rattle.checkpoint.specs.Layout.{disk_size, half_at, half_end, label_at, other_of, root_at, slot_at, slot_size}
use Rattle.checkpoint.specs.Label.{IsLabel}

-- so many sectors from the sector `at` on
unfoldable pub sectors_from : List (List Byte) → Sector → Sectors → List (List Byte)
sectors_from image at zero = []
sectors_from image at (suc n) = sector image at ∷ sectors_from image (at + 1) n

-- the image of a register: its epoch, and the register's state
abbrev pub Base : Type 0
Base = Epoch × State

-- what the sectors of a side's slot are read as: the image with which they begin, or the place of the first bad sector, from 0 in the slot
abbrev pub slot_in : Layout → Side → List (List Byte) → Result Base Sector
slot_in layout side image = slot_of layout.limits (sectors_from image (slot_at layout side) (slot_size layout))

-- the side's slot begins with this image of a register
abbrev pub IsInSlot : Layout → Side → Base → List (List Byte) → Type 0
IsInSlot layout side base image = slot_in layout side image ≡ Ok base

-- the epoch of a header; no other row has one
abbrev pub epoch_of : Option Row → Option Epoch
epoch_of (Some (HeaderRow h)) = Some h.epoch
epoch_of (Some (RuleRow prefix rule)) = None
epoch_of (Some (RadioRow itsi radio groups)) = None
epoch_of (Some (MailRow w)) = None
epoch_of (Some (ServedRow station last)) = None
epoch_of None = None

-- the epoch that the first sector of a side's slot states, where it is a header
abbrev pub slot_epoch : Layout → Side → List (List Byte) → Option Epoch
slot_epoch layout side image = epoch_of (row_in (sector image (slot_at layout side)))

-- the side's slot states an epoch, which is smaller than this one
abbrev pub HasLesserEpoch : Layout → Side → Epoch → List (List Byte) → Type 0
HasLesserEpoch layout side epoch image = (e : Epoch) × (slot_epoch layout side image ≡ Some e) × (e < epoch)

-- the side does not count against another side of this epoch: its root is closed, or its slot states a smaller epoch
abbrev pub IsBelow : Layout → Side → Epoch → List (List Byte) → Type 0
IsBelow layout side epoch image = IsClosed (sector image (root_at side)) ⊎ HasLesserEpoch layout side epoch image

-- P holds of every image that a stop may leave of the disk now
abbrev pub InEach : View → (List (List Byte) → Type 0) → Type 0
InEach disk P = (image : List (List Byte)) → IsImageOf disk image → P image

-- Nothing is pending, and the side's root and the first gate of its half are closed.
pub record IsShut (layout : Layout) (side : Side) (disk : View) : Type 0 where
  pub durable : (k : Sector) → disk.pending k ≡ false
  pub root : IsClosed (sector disk.reads (root_at side))
  pub gate : IsClosed (sector disk.reads (half_at layout side))

-- The form of the records after an image, as the image's first sector states it: numbered if that is a header of layout 2, else plain.
abbrev pub stated_form : List Byte → Form
stated_form bytes = if slice_index bytes 0 == header_tag then Numbered else Plain

-- the form of the records in a side's half, by the first sector of its slot
abbrev pub slot_form : Layout → Side → List (List Byte) → Form
slot_form layout side image = stated_form (sector image (slot_at layout side))

-- the form of the records in a side's half, as the disk reads
abbrev pub ReadsForm : Layout → Side → Form → View → Type 0
ReadsForm layout side form disk = form ≡ slot_form layout side disk.reads

-- the records of a half, and the sector of its first closed gate
abbrev pub RecordsAndGate : Type 0 → Type 0
RecordsAndGate A = List (RecordAt A) × Sector

module _ {A : Type 0} where
  -- The side's half holds the records `held.0`, of this form, and its first closed gate is the sector `held.1`. The records come after
  -- the `base.1.count` commands of the image's register.
  abbrev pub IsInHalf : Layout → Side → Form → Base → RecordsAndGate A → List (List Byte) → Type 0
  IsInHalf layout side form base held image = half_of form base.1.count image (half_at layout side) (half_end layout side) ≡ Ok held

  -- the place where the next record of a side's half goes, after the image and these records
  abbrev pub place_after : Layout → Side → Form → Base → RecordsAndGate A → Place
  place_after layout side form base held = record {
    first = half_at layout side;
    end = half_end layout side;
    next = held.1;
    form = form;
    count = counted base.1.count held.0;
  }

  -- a side's half without a record: its first gate is closed
  abbrev pub fresh : Layout → Side → RecordsAndGate A
  fresh layout side = ([], half_at layout side)

  -- The image of the disk is on this side. It has enough sectors for the layout, and the layout's label. The side's root is open,
  -- and the other side does not count against it (`IsBelow`). The side's slot begins with the image `base` of a register. The side's
  -- half holds the records `held`, of the form that the slot states. The closed gate after them is in the half.
  pub record IsOnSide (layout : Layout) (side : Side) (form : Form) (base : Base) (held : RecordsAndGate A) (image : List (List Byte)) : Type 0 where
    pub room : disk_size layout ≤ length image
    pub label : IsLabel layout (sector image label_at)
    pub root : IsOpen (sector image (root_at side))
    pub below : IsBelow layout (other_of side) base.0 image
    pub slot : IsInSlot layout side base image
    pub form_is : slot_form layout side image ≡ form
    pub half : IsInHalf layout side form base held image
    pub gate : held.1 < half_end layout side

  -- The side is ready to be switched to. Its root is closed, and its slot begins with the image `base` of a register. Its half holds
  -- the records `held`, of the form that the slot states. The closed gate after them is in the half.
  pub record IsReady (layout : Layout) (side : Side) (form : Form) (base : Base) (held : RecordsAndGate A) (image : List (List Byte)) : Type 0 where
    pub root : IsClosed (sector image (root_at side))
    pub slot : IsInSlot layout side base image
    pub form_is : slot_form layout side image ≡ form
    pub half : IsInHalf layout side form base held image
    pub gate : held.1 < half_end layout side

  -- every image of the disk is on this side, with this image of a register and these records, in this form
  abbrev pub EachIsOnSide : View → Layout → Side → Form → Base → RecordsAndGate A → Type 0
  EachIsOnSide disk layout side form base held = InEach disk (IsOnSide layout side form base held)

  -- in every image of the disk this side is ready (`IsReady`), with this image of a register and these records, in this form
  abbrev pub EachIsReady : View → Layout → Side → Form → Base → RecordsAndGate A → Type 0
  EachIsReady disk layout side form base held = InEach disk (IsReady layout side form base held)

  -- the image is on the current side with `base` and the records `held`, or on the other one with `next` and the records `more`
  abbrev pub IsEither : Layout → Side → Form → Form → Base → Base → RecordsAndGate A → RecordsAndGate A → List (List Byte) → Type 0
  IsEither layout current form also base next held more image =
      IsOnSide layout current form base held image ⊎ IsOnSide layout (other_of current) also next more image

-- In every image of the disk this side is ready (`IsReady`). Its root is closed. Its slot begins with this image of a register, whose
-- header is of layout 2. Its half has no record.
abbrev pub HasFreshImage : Type 0 → Layout → Side → Base → View → Type 0
HasFreshImage A layout side base disk = EachIsReady {A = A} disk layout side Numbered base (fresh layout side)

-- Suppose that old is honest, and that all of its images are on this side, with the same image of a register and the same
-- records. Then a stop at any moment from old to new leaves the disk on this side, with that register and these records.
abbrev pub KeepsSide : Type 0 → Layout → Side → View → View → Type 0
KeepsSide A layout side old new =
    (form : Form) (base : Base) (held : RecordsAndGate A) → old.honest → EachIsOnSide old layout side form base held
    → LeavesOnly old new (IsOnSide layout side form base held)

-- Suppose that old is honest, that each of its images is on this side, and that in each the other side is ready (`IsReady`)
-- with a greater epoch. Then a stop at any moment from old to new leaves the disk on one of the two sides. That side has the
-- register and the records that it had in old.
abbrev pub KeepsEitherSide : Type 0 → Layout → Side → View → View → Type 0
KeepsEitherSide A layout side old new =
    (form also : Form) (base next : Base) (held more : RecordsAndGate A) → base.0 < next.0 → old.honest → EachIsOnSide old layout side form base held
    → EachIsReady old layout (other_of side) also next more → LeavesOnly old new (IsEither layout side form also base next held more)

-- Suppose that old is honest, that each of its images is on this side, and that in each the other side is ready (`IsReady`)
-- with a greater epoch. Then each image of new is on the other side, with the register and the records that the other side had in old.
abbrev pub ChangesSide : Type 0 → Layout → Side → View → View → Type 0
ChangesSide A layout side old new =
    (form also : Form) (base next : Base) (held more : RecordsAndGate A) → base.0 < next.0 → old.honest → EachIsOnSide old layout side form base held
    → EachIsReady old layout (other_of side) also next more → EachIsOnSide new layout (other_of side) also next more
