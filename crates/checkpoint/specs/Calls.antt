-- The calls of the disk that write an image of a register, and that switch to its side.
use Rattle.std.specs.Prelude.{ℕ, Bool, List, [], ◌∷◌, ◌++◌, length, if◌then◌else◌, OnOk, Result}
use Rattle.identity.specs.Numbers.{Byte}
use Rattle.sector_disk.specs.Numbers.{Sector}
use Rattle.sector_disk.specs.Disk.{View, sector}
use Rattle.sector_disk.specs.Run.{HasCalled, HasMade, writes}
use Rattle.sector_disk.specs.declared.record.Call.{Call}
use Rattle.sector_disk.specs.declared.record.Call.TheVariants.{Read, Sync, Write}
use Rattle.gated_journal.specs.Calls.{closed_gate, open_gate}
use Rattle.gated_journal.specs.Half.{is_open}
use Rattle.image_rows.specs.Rows.{rows_of}
use Rattle.image_rows.specs.Image.{sectors_of}
use Rattle.checkpoint.specs.declared.layout.Layout.{Layout}
use Rattle.checkpoint.specs.declared.side.Side.{Side}
use Rattle.checkpoint.specs.Layout.{half_at, root_at, slot_at}
use Rattle.checkpoint.specs.OnSide.{Base}

-- ---- a side is closed

-- the side's root is read, and written closed where it was read as open (`was_open`)
abbrev pub root_calls_by : Side → Bool → List Call
root_calls_by side was_open = Read (root_at side) ∷ (if was_open then Write (root_at side) closed_gate ∷ [] else [])

-- the side's root is read, and written closed where it was read as open (`was_open`); then the half's first gate is closed, and the disk synced
abbrev pub close_calls_by : Layout → Side → Bool → List Call
close_calls_by layout side was_open = root_calls_by side was_open ++ Write (half_at layout side) closed_gate ∷ Sync ∷ []

-- does the side's root read as open?
abbrev pub is_root_open : Side → List (List Byte) → Bool
is_root_open side reads = is_open (sector reads (root_at side))

-- the side's root is read, and written closed where it reads as open
abbrev pub root_calls : Side → List (List Byte) → List Call
root_calls side reads = root_calls_by side (is_root_open side reads)

-- the side's root is read, and written closed where it reads as open; then the half's first gate is closed, and the disk synced
abbrev pub close_calls : Layout → Side → List (List Byte) → List Call
close_calls layout side reads = close_calls_by layout side (is_root_open side reads)

-- ---- an image is written, and made to count

-- the sector that row k of an image is written as; row 0 is the header
abbrev pub row_sector : Base → ℕ → List Byte
row_sector base k = sector (sectors_of base.0 base.1) k

-- the rows of an image are written from the sector `at` on, each once, in order
abbrev pub row_calls : Sector → Base → List Call
row_calls at base = writes at (length (rows_of base.0 base.1)) (row_sector base)

-- the side is closed (`close_calls_by`), then the image is written to the side's slot, and the disk synced
abbrev pub image_calls_by : Layout → Side → Bool → Base → List Call
image_calls_by layout side was_open base = close_calls_by layout side was_open ++ row_calls (slot_at layout side) base ++ Sync ∷ []

-- the side is closed (`close_calls`), then the image is written to the side's slot, and the disk synced
abbrev pub image_calls : Layout → Side → List (List Byte) → Base → List Call
image_calls layout side reads base = image_calls_by layout side (is_root_open side reads) base

-- the side's root is written as open, and the disk synced
abbrev pub switch_calls : Side → List Call
switch_calls side = Write (root_at side) open_gate ∷ Sync ∷ []

-- ---- which of these a call of this crate makes

-- At `Ok` the disk has had exactly these calls, and after an error a prefix of them.
pub record MakesCalls {T E : Type 0} (old new : View) (list : List Call) (result : Result T E) : Type 0 where
  pub calls : OnOk result (HasCalled old new list)
  pub some_calls : HasMade old new list

-- The calls depend on whether the side's root was read as open: `calls_by` lists them for each case. At `Ok` the disk has had
-- exactly these calls, and after an error a prefix of them. On an honest disk the root was read as it is in `old`. On any other
-- disk the root may have been read as open or as closed.
pub record MakesCallsByRoot {T E : Type 0} (old new : View) (side : Side) (calls_by : Bool → List Call) (result : Result T E) : Type 0 where
  pub calls : OnOk result (old.honest → HasCalled old new (calls_by (is_root_open side old.reads)))
  pub some_calls : old.honest → HasMade old new (calls_by (is_root_open side old.reads))
  pub calls_on_any_disk : OnOk result ((was_open : Bool) × HasCalled old new (calls_by was_open))
  pub some_calls_on_any_disk : (was_open : Bool) × HasMade old new (calls_by was_open)

-- The calls that the disk has had are those that close a side and write this image to it, as `MakesCallsByRoot` states.
abbrev pub MakesImageCalls : {T E : Type 0} → View → View → Layout → Side → Base → Result T E → Type 0
MakesImageCalls old new layout side base result = MakesCallsByRoot old new side (λ was_open. image_calls_by layout side was_open base) result
