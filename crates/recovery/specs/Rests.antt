-- What is left of the register on a damaged disk: the rows and the records of a side that can still be read.
use Rattle.std.specs.Prelude.{◌≡◌, ℕ, zero, suc, ◌+◌, ◌-◌, ◌&&◌, ◌||◌, ◌==◌, Bool, true, false, List, [], ◌∷◌, length, Option, Some, None, Result, Ok, Err, nat_lt, unwrap_or}
use Rattle.std.specs.Prelude.{MatchOption, if◌then◌else◌, nat_le}
use Rattle.byteorder.specs.Endian.{big_from}
use Rattle.identity.specs.Numbers.{Byte}
use Rattle.sector_disk.specs.Numbers.{Sector, Sectors}
use Rattle.sector_disk.specs.Disk.{sector}
use Rattle.registration.specs.declared.limits.Limits.{Limits}
use Rattle.centre_core.specs.Asked.{Asked}
use Rattle.centre_core.specs.State.{State}
use Rattle.centre_core.specs.History.{accepts, next}
use Rattle.image_rows.specs.Numbers.{Epoch}
use Rattle.image_rows.specs.Rows.{Header, HeaderRow}
use Rattle.image_rows.specs.RowReading.{row_in}
use Rattle.image_rows.specs.Loading.{Loading, begun, finished, header_may, row_taken}
use Rattle.image_rows.specs.Held.{taken_from}
use Rattle.gated_journal.specs.declared.form.Form.{Form}
use Rattle.gated_journal.specs.Half.{is_open, record_at, stated_size}
use Rattle.gated_journal.specs.Record.{most_commands}
use Rattle.checkpoint.specs.declared.layout.Layout.{Layout}
use Rattle.checkpoint.specs.declared.side.Side.{Side}
use Rattle.checkpoint.specs.declared.side.Side.TheVariants as side
use Rattle.checkpoint.specs.Layout.{half_at, half_end, root_at, slot_at}
use Rattle.checkpoint.specs.OnSide.{slot_form}
use Rattle.recovery.specs.declared.rest.LeftOut.{LeftOut}
use Rattle.recovery.specs.declared.rest.Rest.{Rest}
use Rattle.recovery.specs.declared.damaged.DamageKind.{DamageKind}
use Rattle.recovery.specs.declared.damaged.DamageKind.TheVariants as kind
use Rattle.recovery.specs.declared.damaged.Reason.{Reason}
use Rattle.recovery.specs.declared.fault.StoreFault.TheVariants.{Damaged}
use Rattle.recovery.specs.Damage.{fault_at, header_of, kind_at}
use Rattle.recovery.specs.Label.{layout_in}
use Rattle.recovery.specs.Opens.{Opening, opens}

-- ---- rows

-- a header of the same epoch and count without rows
abbrev pub without_rows : Header → Header
without_rows h = record h { rules = 0; radios = 0; mail = 0; served = 0 }

-- a header with one more row of this kind
abbrev pub with_row : Header → DamageKind → Header
with_row h kind.Rule = record h { rules = h.rules + 1 }
with_row h kind.Radio = record h { radios = h.radios + 1 }
with_row h kind.Item = record h { mail = h.mail + 1 }
with_row h kind.Station = record h { served = h.served + 1 }
with_row h kind.Header = h
with_row h (kind.Record commands) = h
with_row h kind.Gate = h

-- The rows that were kept so far: what they make, and a header that states as many of each kind.
pub record KeptRows : Type 0 where
  pub loading : Loading
  pub rows : Header

-- nothing if there is a reason against it
abbrev pub unless_wrong : {X : Type 0} → Option Reason → Option X → Option X
unless_wrong None x = x
unless_wrong (Some why) x = None

-- one row more of this kind is kept, if the loading goes on with it; else it is left out
abbrev pub kept_by : KeptRows → DamageKind → Option Loading → KeptRows
kept_by kept what None = kept
kept_by kept what (Some more) = record { loading = more; rows = with_row kept.rows what }

-- A row is kept if its sector holds a row of the kind that is due there, and if that may come after the rows kept before it.
abbrev pub kept_with : Header → ℕ → List Byte → KeptRows → KeptRows
kept_with h place bytes kept = kept_by kept (kind_at h place) (unless_wrong (fault_at h place (row_in bytes)) (taken_from kept.loading bytes))

-- the rows in `kept`, and those that are kept of so many after the header h in a slot
unfoldable pub rows_kept : List (List Byte) → Sector → Header → KeptRows → Sectors → KeptRows
rows_kept image slot h kept zero = kept
rows_kept image slot h kept (suc n) = kept_with h (n + 1) (sector image (slot + (n + 1))) (rows_kept image slot h kept n)

-- no row is kept yet: the header h is loaded, and the rows that are kept are counted in `stated`, without its own
abbrev pub none_kept : Limits → Header → Header → KeptRows
none_kept limits h stated = record { loading = unwrap_or (row_taken (begun limits) (HeaderRow h)) (begun limits); rows = without_rows stated }

-- how many rows a header states
abbrev pub rows_stated : Header → Sectors
rows_stated h = h.rules + h.radios + h.mail + h.served

-- the header h with fewer rows: of the first kind of which it states more than were kept, it then states as many as were
abbrev pub lowered : Header → Header → Header
lowered h kept =
    if nat_lt kept.rules h.rules then record h { rules = kept.rules }
    else if nat_lt kept.radios h.radios then record h { radios = kept.radios }
    else if nat_lt kept.mail h.mail then record h { mail = kept.mail }
    else if nat_lt kept.served h.served then record h { served = kept.served }
    else h

-- the register that was made, with the header, or else another one
abbrev pub made_or : Header → Option (Epoch × State) → Option (Header × State) → Option (Header × State)
made_or h (Some base) other = Some (h, base.1)
made_or h None other = other

module _ (limits : Limits) (image : List (List Byte)) (slot : Sector) (stated : Header) where
  -- the rows of a slot that are kept, if its header is this one
  abbrev pub kept_under : Header → KeptRows
  kept_under h = rows_kept image slot stated (none_kept limits h stated) (rows_stated stated)

  -- The register of the rows that are kept under this header, and the header. If they make none, the rows are kept under the
  -- lowered header, and so on, in so many attempts in all.
  unfoldable pub made_by : ℕ → Header → Option (Header × State)
  made_by zero h = None
  made_by (suc n) h = let kept = kept_under h in made_or h (finished kept.loading) (made_by n (lowered h kept.rows))

  -- the register of the slot's rows that are kept: the header is changed four times at most, once for each kind
  abbrev pub left_in : Option (Header × State)
  left_in = made_by 5 stated

-- ---- records

module _ {A : Type 0} where
  -- the state after commands up to the first that is not accepted, and whether all are accepted
  unfoldable pub run_while : State → List (Asked A) → State × Bool
  run_while s [] = (s, true)
  run_while s (c ∷ cs) = if accepts s c then run_while (next s c) cs else (next s c, false)

-- From a gate on, after so many commands, the records lead from one state to another. They end at a closed gate, at a record
-- that can't be read or at one with a command that is not accepted: the last option has the sector of such a record.
pub data LeadsTo (A : Type 0) (form : Form) (image : List (List Byte)) (end : Sector) : ℕ → Sector → State → State → Option Sector → Type 0 where
  closed : (before : ℕ) (at : Sector) (s : State) → record_at {A = A} form before image at end ≡ Ok None → LeadsTo A form image end before at s s None
  unreadable : (before : ℕ) (at : Sector) (s : State) (bad : Sector) → record_at {A = A} form before image at end ≡ Err bad
      → LeadsTo A form image end before at s s (Some bad)
  refused : (before : ℕ) (at : Sector) (s t : State) (commands : List (Asked A)) (gate : Sector)
      → record_at form before image at end ≡ Ok (Some (commands, gate)) → run_while s commands ≡ (t, false)
      → LeadsTo A form image end before at s t (Some (at + 1))
  played : (before : ℕ) (at : Sector) (s t u : State) (commands : List (Asked A)) (gate : Sector) (bad : Option Sector)
      → record_at form before image at end ≡ Ok (Some (commands, gate)) → run_while s commands ≡ (t, true)
      → LeadsTo A form image end (before + length commands) gate t u bad → LeadsTo A form image end before at s u bad

-- ---- the records after that one

-- From a gate on, after so many commands, so many records can be read, one after another.
pub data AreReadable (A : Type 0) (form : Form) (image : List (List Byte)) (end : Sector) : ℕ → Sector → ℕ → Type 0 where
  up_to_closed : (before : ℕ) (at : Sector) → record_at {A = A} form before image at end ≡ Ok None → AreReadable A form image end before at 0
  up_to_bad : (before : ℕ) (at bad : Sector) → record_at {A = A} form before image at end ≡ Err bad → AreReadable A form image end before at 0
  one_more : (before : ℕ) (at : Sector) (commands : List (Asked A)) (gate : Sector) (n : ℕ)
      → record_at form before image at end ≡ Ok (Some (commands, gate))
      → AreReadable A form image end (before + length commands) gate n → AreReadable A form image end before at (n + 1)

-- so many records can be read from a gate on, if there is one, which comes with the number of commands before it; else none
abbrev pub AreReadableAt : (A : Type 0) → Form → List (List Byte) → Sector → Option (ℕ × Sector) → ℕ → Type 0
AreReadableAt A form image end None n = n ≡ 0
AreReadableAt A form image end (Some x) n = AreReadable A form image end x.0 x.1 n

-- The gate after a record that can't be read, and the number of commands before it, as the bad sector states them. There is none if
-- that sector is the record's gate, if it states more commands than a record has, or an end beyond the half's last gate.
abbrev pub gate_after : Form → ℕ → List (List Byte) → Sector → Sector → Sector → Option (ℕ × Sector)
gate_after form before image at bad end =
    let commands = big_from 0 2 (sector image bad) in
    let gate = bad + stated_size form (sector image bad) in
    if nat_lt at bad && (nat_le commands most_commands && nat_lt gate end) then Some (before + commands, gate) else None

-- From a gate on, after so many commands, records that can be read lead to one in this sector, and so many after it can be
-- read. If that one can't be read itself, they are read from where it states that it ends, else from where it ends. That the
-- records end at it is stated by `LeadsTo` alone.
pub data AreLater (A : Type 0) (form : Form) (image : List (List Byte)) (end : Sector) : ℕ → Sector → Sector → ℕ → Type 0 where
  after_unreadable : (before : ℕ) (at bad : Sector) (later : ℕ) → record_at {A = A} form before image at end ≡ Err bad
      → AreReadableAt A form image end (gate_after form before image at bad end) later → AreLater A form image end before at bad later
  after_refused : (before : ℕ) (at : Sector) (commands : List (Asked A)) (gate : Sector) (later : ℕ)
      → record_at form before image at end ≡ Ok (Some (commands, gate))
      → AreReadable A form image end (before + length commands) gate later → AreLater A form image end before at (at + 1) later
  after_played : (before : ℕ) (at : Sector) (commands : List (Asked A)) (gate bad : Sector) (later : ℕ)
      → record_at form before image at end ≡ Ok (Some (commands, gate))
      → AreLater A form image end (before + length commands) gate bad later → AreLater A form image end before at bad later

-- ---- a side

-- the side's root is open, and its slot begins with this header, which the limits allow
pub record HasHeader (layout : Layout) (side : Side) (image : List (List Byte)) (h : Header) : Type 0 where
  pub root : is_open (sector image (root_at side)) ≡ true
  pub stated : header_of (row_in (sector image (slot_at layout side))) ≡ Some h
  pub may : header_may layout.limits h ≡ true

-- the side's root is open, and its slot begins with a header that the limits allow
abbrev pub HasGoodHeader : Layout → Side → List (List Byte) → Type 0
HasGoodHeader layout side image = (h : Header) × HasHeader layout side image h

-- how many rows of each kind are left out, by the header that is there and by one that states as many as are kept
abbrev pub left_out : Header → Header → LeftOut
left_out stated kept = record {
  rules = stated.rules - kept.rules;
  radios = stated.radios - kept.radios;
  items = stated.mail - kept.mail;
  stations = stated.served - kept.served;
}

-- Of a side this register is left: that of its rows that are kept, after the commands of its records as far as these lead. So many rows
-- are left out, and the records end at this sector.
pub record IsLeft (A : Type 0) (layout : Layout) (side : Side) (image : List (List Byte)) (epoch : Epoch) (out : LeftOut) (s : State) (bad : Option Sector) : Type 0 where
  pub stated : Header
  pub kept : Header
  pub base : State
  pub header : HasHeader layout side image stated
  pub rows : left_in layout.limits image (slot_at layout side) stated ≡ Some (kept, base)
  pub records : LeadsTo A (slot_form layout side image) image (half_end layout side) stated.count (half_at layout side) base s bad
  pub of_epoch : epoch ≡ stated.epoch
  pub missing : out ≡ left_out stated kept

-- So many records of a side's half, whose records follow so many commands, can be read after the one at which they end.
abbrev pub AreLaterIn : (A : Type 0) → Layout → Side → List (List Byte) → ℕ → Option Sector → ℕ → Type 0
AreLaterIn A layout side image before None later = later ≡ 0
AreLaterIn A layout side image before (Some bad) later = AreLater A (slot_form layout side image) image (half_end layout side) before (half_at layout side) bad later

-- So many records of a side can be read after the one at which they end. Its header counts the commands before them.
abbrev pub AreLaterOf : (A : Type 0) → Layout → Side → List (List Byte) → Option Sector → ℕ → Type 0
AreLaterOf A layout side image bad later = (h : Header) × HasHeader layout side image h × AreLaterIn A layout side image h.count bad later

-- nothing is left of a side: its root is closed, its header is damaged or beyond the limits, or its rows make no register
abbrev pub NothingIsLeft : Layout → Side → List (List Byte) → Type 0
NothingIsLeft layout side image = (h : Header) → HasHeader layout side image h → left_in layout.limits image (slot_at layout side) h ≡ None

-- ---- which side

-- how many commands a register has accepted, and the epoch of its side
abbrev pub Size : Type 0
Size = ℕ × Epoch

-- the size of what is left of a side; none if nothing is left
abbrev pub IsSizeOf : (A : Type 0) → Layout → Side → List (List Byte) → Option Size → Type 0
IsSizeOf A layout side image None = NothingIsLeft layout side image
IsSizeOf A layout side image (Some size) =
    (out : LeftOut) × (s : State) × (bad : Option Sector) × IsLeft A layout side image size.1 out s bad × (size.0 ≡ s.count)

-- the side of which more commands are left, or the one of the greater epoch if these are equal; A if both are
abbrev pub greater_of : Size → Size → Side
greater_of a b = if nat_lt a.0 b.0 || ((a.0 == b.0) && nat_lt a.1 b.1) then side.B else side.A

-- the side of which more is left, or the only one of which something is; A if nothing is left of either
abbrev pub greater_side : Option Size → Option Size → Side
greater_side a None = side.A
greater_side None (Some b) = side.B
greater_side (Some a) (Some b) = greater_of a b

-- this is the side of which more is left
pub record IsGreaterSide (A : Type 0) (layout : Layout) (image : List (List Byte)) (which : Side) : Type 0 where
  pub a : Option Size
  pub b : Option Size
  pub of_a : IsSizeOf A layout side.A image a
  pub of_b : IsSizeOf A layout side.B image b
  pub greater : which ≡ greater_side a b

-- ---- a disk

-- no row is left out
abbrev pub none_left_out : LeftOut
none_left_out = record { rules = 0; radios = 0; items = 0; stations = 0 }

-- What is left of a disk: all that it opens to, or, if it is damaged, what is left of the side of which more is.
pub data IsRestOf (A : Type 0) (image : List (List Byte)) : Side → Epoch → LeftOut → State → Option Sector → Type 0 where
  whole : (opening : Opening) → opens A image ≡ Ok opening → IsRestOf A image opening.side opening.epoch none_left_out opening.state None
  left : (at : Sector) (layout : Layout) (side : Side) (epoch : Epoch) (out : LeftOut) (s : State) (bad : Option Sector)
      → opens A image ≡ Err (Damaged at) → layout_in image ≡ Ok layout → IsGreaterSide A layout image side
      → IsLeft A layout side image epoch out s bad → IsRestOf A image side epoch out s bad

-- So many records of a side can be read after the one at which they end; none if they end at none, as on a disk that opens.
abbrev pub AreLaterOnDisk : (A : Type 0) → List (List Byte) → Side → Option Sector → ℕ → Type 0
AreLaterOnDisk A image side None later = later ≡ 0
AreLaterOnDisk A image side (Some bad) later = (layout : Layout) × (layout_in image ≡ Ok layout) × AreLaterOf A layout side image (Some bad) later

-- a disk has a label, and a side with an open root and a header that the limits allow
abbrev pub HasSomeHeader : List (List Byte) → Type 0
HasSomeHeader image = (layout : Layout) × (side : Side) × (layout_in image ≡ Ok layout) × HasGoodHeader layout side image

-- a disk is damaged, and a side has an open root and a header that the limits allow
abbrev pub IsDamagedWithHeader : (A : Type 0) → List (List Byte) → Type 0
IsDamagedWithHeader A image = (at : Sector) × (opens A image ≡ Err (Damaged at)) × HasSomeHeader image

-- A disk is damaged, and nothing is left of it.
pub record HasNoRest (A : Type 0) (image : List (List Byte)) : Type 0 where
  pub at : Sector
  pub layout : Layout
  pub side : Side
  pub damaged : opens A image ≡ Err (Damaged at)
  pub label : layout_in image ≡ Ok layout
  pub greater : IsGreaterSide A layout image side
  pub nothing : NothingIsLeft layout side image

module _ (A : Type 0) (image : List (List Byte)) where
  -- this is left of a disk, or nothing is
  abbrev pub IsDiskRest : Option (Rest A) → Type 0
  IsDiskRest found = MatchOption found (HasNoRest A image) (λ rest. IsRestOf A image rest.side rest.epoch rest.left_out rest.register rest.stop)

  -- so many records can be read after the one at which those of the side end
  abbrev pub HasLaterOnDisk : Rest A → Type 0
  HasLaterOnDisk rest = AreLaterOnDisk A image rest.side rest.stop rest.later
