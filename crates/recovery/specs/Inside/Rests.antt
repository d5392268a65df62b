-- Rows and records that are read as far as they can be, in the parts that the code reads them in.
use Rattle.std.specs.Prelude.{◌≡◌, ℕ, ◌≤◌, ◌<◌, ◌+◌, Bool, true, false, IfSome, List, MatchOption, Ok, Option, Some, None, if◌then◌else◌, nat_lt}
use Rattle.identity.specs.Numbers.{Byte}
use Rattle.sector_disk.specs.Numbers.{Sector}
use Rattle.sector_disk.specs.Disk.{View, sector}
use Rattle.centre_core.specs.State.{State}
use Rattle.image_rows.specs.Rows.{Header, HeaderRow}
use Rattle.image_rows.specs.RowReading.{IsRow, row_in}
use Rattle.image_rows.specs.Held.{taken_from}
use Rattle.image_rows.specs.Loading.{Loading}
use Rattle.gated_journal.specs.declared.place.Place.{Place}
use Rattle.checkpoint.specs.declared.layout.Layout.{Layout}
use Rattle.checkpoint.specs.declared.side.Side.{Side}
use Rattle.checkpoint.specs.Layout.{half_at, half_end, slot_at}
use Rattle.checkpoint.specs.OnSide.{ReadsForm, slot_form}
use Rattle.recovery.specs.declared.rest.Rest.{Rest}
use Rattle.recovery.specs.declared.rest_rows.Slot.{Slot}
use Rattle.recovery.specs.declared.stated.Stated.{Stated}
use Rattle.recovery.specs.Damage.{fault_at}
use Rattle.recovery.specs.Label.{layout_in}
use Rattle.recovery.specs.Rests.{AreLater, AreLaterIn, AreLaterOf, AreReadable, AreReadableAt, HasHeader, IsGreaterSide, IsLeft, KeptRows, LeadsTo, NothingIsLeft}
use Rattle.recovery.specs.Rests.{gate_after, kept_under, kept_with, left_in, rows_kept, rows_stated, unless_wrong, without_rows}

-- what a loader has made of the rows so far, and how many of each kind it has taken
abbrev pub kept_of : Loading → Header → KeptRows
kept_of l h = record { loading = l; rows = h }

-- a header states no more rows than this of any kind
pub record HasAtMost (n : ℕ) (h : Header) : Type 0 where
  pub rules : h.rules ≤ n
  pub radios : h.radios ≤ n
  pub mail : h.mail ≤ n
  pub served : h.served ≤ n

-- what the loading before this place becomes with these bytes, if they are the row that is due there
abbrev pub taken_at : Header → ℕ → List Byte → Loading → Option Loading
taken_at h place bytes loading = unless_wrong (fault_at h place (row_in bytes)) (taken_from loading bytes)

module _ (slot : Slot) (image : List (List Byte)) where
  -- the rows that are kept, with the one at this place
  abbrev pub kept_at : ℕ → KeptRows → KeptRows
  kept_at place kept = kept_with slot.stated place (sector image (slot.first + place)) kept

  -- the rows of the slot that are kept after what is loaded
  abbrev pub kept_after : Loading → KeptRows
  kept_after loading = rows_kept image slot.first slot.stated (kept_of loading (without_rows slot.stated)) (rows_stated slot.stated)

  -- the rows of the slot that are kept if its header is this one
  abbrev pub kept_by_header : Header → KeptRows
  kept_by_header h = kept_under slot.limits image slot.first slot.stated h

  -- the register that is left of the rows, and the header that states as many as are kept
  abbrev pub left_of : Option (Header × State)
  left_of = left_in slot.limits image slot.first slot.stated

-- where the records from the next gate of a place on lead, as the disk reads
abbrev pub LeadsFrom : (A : Type 0) → Place → View → State → State → Option ℕ → Type 0
LeadsFrom A place disk s t bad = LeadsTo A place.form disk.reads place.end place.count place.next s t bad

-- `true`: one record more was played, so where the records from the new place on lead, those from the old place on lead too.
-- `false`: the records from the old place on lead from s to t and end there.
abbrev pub LeadsOn : (A : Type 0) → Bool → Place → Place → View → State → State → Option ℕ → Type 0
LeadsOn A true old new disk s t bad = (u : State) (last : Option ℕ) → LeadsFrom A new disk t u last → LeadsFrom A old disk s u last
LeadsOn A false old new disk s t bad = LeadsFrom A old disk s t bad

-- ---- the records after the one at which they end

-- so many records can be read from the next gate of a place on
abbrev pub CanRead : (A : Type 0) → Place → View → ℕ → Type 0
CanRead A place disk n = AreReadable A place.form disk.reads place.end place.count place.next n

-- `true`: one record more can be read from the old place on than from the new one. `false`: none can be read from the old one.
abbrev pub ReadsOn : (A : Type 0) → Bool → Place → Place → View → Type 0
ReadsOn A true old new disk = (n : ℕ) → CanRead A new disk n → CanRead A old disk (n + 1)
ReadsOn A false old new disk = CanRead A old disk 0

-- the next gate of a place, with the number of commands before it, if there is one
abbrev pub gate_if : Bool → Place → Option (ℕ × Sector)
gate_if true place = Some (place.count, place.next)
gate_if false place = None

-- The gate after the record in this sector: the next gate of a journal that has read the record, else as the record states it.
abbrev pub gate_from : Place → View → Sector → Option (ℕ × Sector)
gate_from place disk bad =
    if nat_lt bad place.next then Some (place.count, place.next) else gate_after place.form place.count disk.reads place.next bad place.end

-- so many records can be read after the one in this sector
abbrev pub CanReadAfter : (A : Type 0) → Place → View → Sector → ℕ → Type 0
CanReadAfter A place disk bad later = AreReadableAt A place.form disk.reads place.end (gate_from place disk bad) later

-- From the next gate of a place on records that can be read lead to the one in this sector, and so many after it can be read.
abbrev pub HasLater : (A : Type 0) → Place → View → Sector → ℕ → Type 0
HasLater A place disk bad later = AreLater A place.form disk.reads place.end place.count place.next bad later

-- if the records from the old place on end at one in a sector, as many can be read after it as `CanReadAfter` states of the new one
abbrev pub EndsAt : (A : Type 0) → Place → Place → View → Option Sector → Type 0
EndsAt A old new disk bad = IfSome bad (λ at. (later : ℕ) → CanReadAfter A new disk at later → HasLater A old disk at later)

-- `true`: one record more was played, so what `HasLater` states of the new place it states of the old one too. `false`: the
-- records end, as `EndsAt` states.
abbrev pub GoesOnOrEnds : (A : Type 0) → Bool → Place → Place → View → Option Sector → Type 0
GoesOnOrEnds A true old new disk bad = (at : Sector) (later : ℕ) → HasLater A new disk at later → HasLater A old disk at later
GoesOnOrEnds A false old new disk bad = EndsAt A old new disk bad

-- ---- a side

module _ (A : Type 0) (layout : Layout) (place : Side × Stated) (disk : View) where
  -- as an honest disk reads, the records of the side, in this form, lead from one state to another
  abbrev pub SideLeads : State → State → Option Sector → Type 0
  SideLeads s t bad =
      disk.honest → ReadsForm layout place.0 place.1.form disk
      → LeadsTo A (slot_form layout place.0 disk.reads) disk.reads (half_end layout place.0) place.1.header.count (half_at layout place.0) s t bad

  -- as an honest disk reads, so many records of the side, in this form, can be read after the one at which its records end
  abbrev pub SideHasLater : Option Sector → ℕ → Type 0
  SideHasLater bad later =
      disk.honest → ReadsForm layout place.0 place.1.form disk → AreLaterIn A layout place.0 disk.reads place.1.header.count bad later

-- a side has this header, which states the form of its records; or it has none that the limits allow
abbrev pub IsGoodHeader : Layout → Side → View → Option Stated → Type 0
IsGoodHeader layout side disk found =
    MatchOption found ((h : Header) → HasHeader layout side disk.reads h → ⊥)
    (λ stated. HasHeader layout side disk.reads stated.header × ReadsForm layout side stated.form disk)

module _ (A : Type 0) where
  -- This is left of a side, with the number of records after the one at which it ends. Or nothing is left, for this reason.
  abbrev pub IsRestOr : Type 0 → Layout → Side → List (List Byte) → Option (Rest A) → Type 0
  IsRestOr Nothing layout side image found =
      MatchOption found Nothing (λ rest. (rest.side ≡ side) × IsLeft A layout side image rest.epoch rest.left_out rest.register rest.stop
      × AreLaterOf A layout side image rest.stop rest.later)

  -- this is left of a side, or nothing is
  abbrev pub IsSideRest : Layout → Side → List (List Byte) → Option (Rest A) → Type 0
  IsSideRest layout side image found = IsRestOr (NothingIsLeft layout side image) layout side image found

  -- this is left of a side with this header, or no register is left of its rows
  abbrev pub IsStatedRest : Layout → Side → Stated → View → Option (Rest A) → Type 0
  IsStatedRest layout side stated disk found =
      ReadsForm layout side stated.form disk → IsRow (HeaderRow stated.header) → HasHeader layout side disk.reads stated.header
      → IsRestOr (left_in layout.limits disk.reads (slot_at layout side) stated.header ≡ None) layout side disk.reads found

  -- this is left of the side of which more is
  abbrev pub IsGreaterRest : List (List Byte) → Option (Rest A) → Type 0
  IsGreaterRest image found =
      (layout : Layout) × (side : Side) × (layout_in image ≡ Ok layout) × IsGreaterSide A layout image side × IsSideRest layout side image found
