-- What a read of a slot's image returns, and the calls of the disk that it makes.
use Rattle.std.specs.Prelude.{◌≡◌, ℕ, zero, suc, ◌+◌, ◌<◌, ◌≤◌, List, [], ◌∷◌, ◌++◌, length, Err, IsErrOf, Result}
use Rattle.identity.specs.Numbers.{Byte}
use Rattle.sector_disk.specs.Numbers.{Sector, Sectors}
use Rattle.sector_disk.specs.Disk.{View}
use Rattle.sector_disk.specs.Run.{HasCalled}
use Rattle.sector_disk.specs.declared.record.Call.{Call}
use Rattle.sector_disk.specs.declared.record.Call.TheVariants.{Read}
use Rattle.image_rows.specs.Rows.{rows_of}
use Rattle.checkpoint.specs.declared.layout.Layout.{Layout}
use Rattle.checkpoint.specs.declared.read_fault.ReadFault.{ReadFault}
use Rattle.checkpoint.specs.declared.read_fault.ReadFault.TheVariants.{Damaged, NoMemory}
use Rattle.checkpoint.specs.declared.side.Side.{Side}
use Rattle.checkpoint.specs.Layout.{slot_at}
use Rattle.checkpoint.specs.OnSide.{Base, IsInSlot, slot_in}

-- the sector `at` of the disk is the first bad one of the side's slot
abbrev pub IsBadSector : Layout → Side → Sector → List (List Byte) → Type 0
IsBadSector layout side at image = (place : ℕ) × (slot_in layout side image ≡ Err place) × (at ≡ slot_at layout side + place)

-- so many sectors from the sector `at` on are read, each once, in order
unfoldable pub read_calls : Sector → Sectors → List Call
read_calls at zero = []
read_calls at (suc n) = read_calls at n ++ Read (at + n) ∷ []

-- the sectors of an image that begins at the sector `at` are read, each once, in order
abbrev pub image_reads : Sector → Base → List Call
image_reads at base = read_calls at (length (rows_of base.0 base.1))

-- The first `read` sectors of the side's slot were read, each once, in order, and none of them is its first bad one.
pub record IsGoodSoFar (layout : Layout) (side : Side) (old new : View) : Type 0 where
  pub read : Sectors
  pub calls : new.calls ≡ old.calls ++ read_calls (slot_at layout side) read
  pub good : (place : ℕ) → slot_in layout side old.reads ≡ Err place → read ≤ place

-- What holds of an image that a read returned. It has the layout's limits. On an honest disk it is the image with which the side's
-- slot begins. On such a disk the only calls were reads of the image's sectors, each once, in order.
pub record HasReadImage (layout : Layout) (side : Side) (old new : View) (image : Base) : Type 0 where
  pub exact : old.honest → IsInSlot layout side image old.reads
  pub limits : image.1.registered.limits ≡ layout.limits
  pub calls : old.honest → HasCalled old new (image_reads (slot_at layout side) image)

-- What an error of a read of an image states. `Damaged` names a sector that the disk has, and on an honest disk the first bad sector
-- of the side's slot. On an honest disk `NoMemory` comes only where no bad sector was read, so it never masks damage.
pub record RefusesImage {T : Type 0} (layout : Layout) (side : Side) (old new : View) (result : Result T ReadFault) : Type 0 where
  pub damaged : (at : ℕ) → IsErrOf result (Damaged at) → old.honest → IsBadSector layout side at old.reads
  pub on_disk : (at : ℕ) → IsErrOf result (Damaged at) → at < old.sectors
  pub memory : IsErrOf result NoMemory → old.honest → IsGoodSoFar layout side old new
