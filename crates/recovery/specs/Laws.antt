-- Laws of what a disk opens to: of its label, of the side that counts, and of what it opens to by its sides.
use Rattle.std.specs.Prelude.{◌≡◌, ◌⊎◌, ◌<◌, ◌≤◌, Err, List, None, Ok, Some, length, take}
use Rattle.identity.specs.Numbers.{Byte}
use Rattle.identity.specs.Packed.{AreBytes}
use Rattle.sector_disk.specs.Disk.{sector}
use Rattle.centre_core.specs.History.{after}
use Rattle.centre_core.specs.Histories.{IsHistory}
use Rattle.image_rows.specs.Numbers.{Epoch}
use Rattle.gated_journal.specs.declared.form.Form.{Form}
use Rattle.gated_journal.specs.Half.{IsClosed, IsOpen}
use Rattle.checkpoint.specs.declared.layout.Layout.{Layout}
use Rattle.checkpoint.specs.declared.side.Side.{Side}
use Rattle.checkpoint.specs.declared.side.Side.TheVariants as side
use Rattle.checkpoint.specs.Label.{IsLabel, name}
use Rattle.checkpoint.specs.Layout.{disk_size, label_at, other_of, root_at, slot_at}
use Rattle.checkpoint.specs.OnSide.{Base, RecordsAndGate, IsBelow, IsOnSide, slot_epoch}
use Rattle.recovery.specs.declared.fault.StoreFault.TheVariants.{BadGeometry, Damaged}
use Rattle.recovery.specs.Checking.{Agrees, opened_by, state_in}
use Rattle.recovery.specs.Label.{layout_in}
use Rattle.recovery.specs.Opens.{opening, opens, side_in}
use Rattle.recovery.specs.OpensTo.{commands_of}

-- ---- the label

-- a disk with a layout's label and enough sectors states the layout
abbrev pub LabelStates : Type 0
LabelStates =
    (layout : Layout) (image : List (List Byte)) → IsLabel layout (sector image label_at) → disk_size layout ≤ length image
    → layout_in image ≡ Ok layout

-- a disk that states a layout has its label and enough sectors
abbrev pub OnlyLabelStates : Type 0
OnlyLabelStates =
    (layout : Layout) (image : List (List Byte)) → AreBytes (sector image label_at) → layout_in image ≡ Ok layout
    → IsLabel layout (sector image label_at) × (disk_size layout ≤ length image)

-- a disk that begins with the label's name and states no layout has a bad geometry
abbrev pub ElseBadGeometry : Type 0
ElseBadGeometry =
    (image : List (List Byte)) → AreBytes (sector image label_at) → take 8 (sector image label_at) ≡ name
    → ((layout : Layout) → IsLabel layout (sector image label_at) → length image < disk_size layout) → layout_in image ≡ Err BadGeometry

-- ---- the side that counts

-- the root of this side is open
abbrev pub IsOpenAt : Side → List (List Byte) → Type 0
IsOpenAt side image = IsOpen (sector image (root_at side))

-- the root of this side is closed
abbrev pub IsClosedAt : Side → List (List Byte) → Type 0
IsClosedAt side image = IsClosed (sector image (root_at side))

-- a side whose root is open counts if the other one is below it: its root is closed, or it states a smaller epoch
abbrev pub GreaterCounts : Type 0
GreaterCounts =
    (layout : Layout) (side : Side) (epoch : Epoch) (image : List (List Byte)) → IsOpenAt side image
    → slot_epoch layout side image ≡ Some epoch → IsBelow layout (other_of side) epoch image → side_in layout image ≡ Ok side

-- no side counts if neither root is open: sector 1 is at fault
abbrev pub NoneCounts : Type 0
NoneCounts =
    (layout : Layout) (image : List (List Byte)) → IsClosedAt side.A image → IsClosedAt side.B image → side_in layout image ≡ Err (Damaged 1)

-- no side counts if side A is open, and the first sector of its slot is no header: that sector is at fault
abbrev pub FirstAtFault : Type 0
FirstAtFault =
    (layout : Layout) (image : List (List Byte)) → IsOpenAt side.A image → slot_epoch layout side.A image ≡ None
    → side_in layout image ≡ Err (Damaged (slot_at layout side.A))

-- no side counts if side B is open, the first sector of its slot is no header, and side A is closed or has a header: that
-- sector of B is at fault
abbrev pub SecondAtFault : Type 0
SecondAtFault =
    (layout : Layout) (image : List (List Byte)) → IsClosedAt side.A image ⊎ ((epoch : Epoch) × (slot_epoch layout side.A image ≡ Some epoch))
    → IsOpenAt side.B image → slot_epoch layout side.B image ≡ None → side_in layout image ≡ Err (Damaged (slot_at layout side.B))

-- no side counts if both are open and state the same epoch: sector 2 is at fault
abbrev pub EqualAtFault : Type 0
EqualAtFault =
    (layout : Layout) (epoch : Epoch) (image : List (List Byte)) → IsOpenAt side.A image → IsOpenAt side.B image
    → slot_epoch layout side.A image ≡ Some epoch → slot_epoch layout side.B image ≡ Some epoch → side_in layout image ≡ Err (Damaged 2)

-- ---- the opening

module _ (A : Type 0) where
  -- an image that is on a side opens from it to what the commands of its records make of its base, if they are accepted
  abbrev pub SideOpens : Type 0
  SideOpens =
      (layout : Layout) (side : Side) (form : Form) (base : Base) (held : RecordsAndGate A) (image : List (List Byte))
      → IsOnSide layout side form base held image → IsHistory base.1 (commands_of held.0)
      → opens A image ≡ Ok (opening layout side base.0 held.1 (after base.1 (commands_of held.0)))

  -- what an image opens to follows from the states of its two sides
  abbrev pub SidesDecide : Type 0
  SidesDecide =
      (layout : Layout) (image : List (List Byte)) → layout_in image ≡ Ok layout
      → Agrees image (opened_by (state_in A layout side.A image) (state_in A layout side.B image)) (opens A image)
