-- The damaged sectors of a side: what each is to hold, and what is wrong with it.
use Rattle.std.specs.Prelude.{◌≡◌, ℕ, zero, suc, ◌+◌, ◌-◌, ◌==◌, ◌&&◌, Bool, false, List, [], ◌∷◌, ◌++◌, Option, Some, None, Ok, Err, nat_le, nat_lt}
use Rattle.std.specs.Prelude.{if◌then◌else◌}
use Rattle.byteorder.specs.Endian.{big_from}
use Rattle.identity.specs.Numbers.{Byte}
use Rattle.sector_disk.specs.Numbers.{Sector, Sectors}
use Rattle.sector_disk.specs.Disk.{sector}
use Rattle.image_rows.specs.Rows.{Header, Row, HeaderRow, RuleRow, RadioRow, MailRow, ServedRow, row_count}
use Rattle.image_rows.specs.RowReading.{row_in}
use Rattle.image_rows.specs.Loading.{header_may}
use Rattle.gated_journal.specs.Half.{Half, half_of}
use Rattle.checkpoint.specs.declared.layout.Layout.{Layout}
use Rattle.checkpoint.specs.declared.side.Side.{Side}
use Rattle.checkpoint.specs.declared.side.Side.TheVariants as side
use Rattle.checkpoint.specs.Layout.{half_at, half_end, slot_at}
use Rattle.checkpoint.specs.OnSide.{slot_form}
use Rattle.recovery.specs.declared.checking.SideState.{SideState}
use Rattle.recovery.specs.declared.checking.SideState.TheVariants as state
use Rattle.recovery.specs.declared.fault.StoreFault.{StoreFault}
use Rattle.recovery.specs.declared.fault.StoreFault.TheVariants.{BadGeometry, Broken, Damaged, DiskFault, EpochsUsedUp, NoMemory, Unformatted, Unready}
use Rattle.recovery.specs.declared.damaged.Damage.{Damage}
use Rattle.recovery.specs.declared.damaged.DamageKind.{DamageKind}
use Rattle.recovery.specs.declared.damaged.DamageKind.TheVariants as kind
use Rattle.recovery.specs.declared.damaged.Reason.{Reason}
use Rattle.recovery.specs.declared.damaged.Reason.TheVariants as reason

-- a damaged sector, put together from its parts
abbrev pub damage : Sector → DamageKind → Reason → Damage
damage at what why = record { sector = at; kind = what; reason = why }

-- the header that a row is
abbrev pub header_of : Option Row → Option Header
header_of (Some (HeaderRow h)) = Some h
header_of (Some (RuleRow prefix rule)) = None
header_of (Some (RadioRow itsi radio groups)) = None
header_of (Some (MailRow w)) = None
header_of (Some (ServedRow station last)) = None
header_of None = None

-- ---- rows

-- what the row at a place after the header is to hold: rules come first, then radios, items and stations
abbrev pub kind_at : Header → ℕ → DamageKind
kind_at h place =
    if nat_le place h.rules then kind.Rule
    else if nat_le place (h.rules + h.radios) then kind.Radio
    else if nat_le place (h.rules + h.radios + h.mail) then kind.Item
    else kind.Station

-- the row is of the kind that this place is to hold
abbrev pub is_due : Header → ℕ → Row → Bool
is_due h place (HeaderRow again) = false
is_due h place (RuleRow prefix rule) = nat_le place h.rules
is_due h place (RadioRow itsi radio groups) = nat_lt h.rules place && nat_le place (h.rules + h.radios)
is_due h place (MailRow w) = nat_lt (h.rules + h.radios) place && nat_le place (h.rules + h.radios + h.mail)
is_due h place (ServedRow station last) = nat_lt (h.rules + h.radios + h.mail) place

-- what is wrong with the row at a place by itself: the sector holds no row, or a row of another kind than is due there
abbrev pub fault_at : Header → ℕ → Option Row → Option Reason
fault_at h place None = Some reason.Unreadable
fault_at h place (Some row) = if is_due h place row then None else Some reason.OutOfPlace

-- what is wrong with the row at which opening stops
abbrev pub fault_of_first : Option Row → Reason
fault_of_first None = reason.Unreadable
fault_of_first (Some row) = reason.OutOfPlace

-- the sector, which is to hold this, as a damaged one, if something is wrong with it
abbrev pub named : Sector → DamageKind → Option Reason → List Damage
named at what None = []
named at what (Some why) = damage at what why ∷ []

-- the row at a place of the slot, if something is wrong with it by itself
abbrev pub row_damage : List (List Byte) → Sector → Header → ℕ → List Damage
row_damage image slot h place = named (slot + place) (kind_at h place) (fault_at h place (row_in (sector image (slot + place))))

-- the rows with which something is wrong by themselves, of so many rows of the slot from a place on
unfoldable pub rows_damage : List (List Byte) → Sector → Header → ℕ → Sectors → List Damage
rows_damage image slot h place zero = []
rows_damage image slot h place (suc n) = rows_damage image slot h place n ++ row_damage image slot h (place + n)

-- ---- records

-- the sector of the first record that can't be read, if there is one
abbrev pub bad_record : {A : Type 0} → Half A → Option Sector
bad_record (Ok held) = None
bad_record (Err at) = Some at

-- What the sector is to hold at which a record is at fault: in the half's last sector a gate that no record follows, and
-- before it a record of as many commands as the sector states.
abbrev pub record_kind : Layout → Side → List (List Byte) → Sector → DamageKind
record_kind layout side image at = if at == half_end layout side - 1 then kind.Gate else kind.Record (big_from 0 2 (sector image at))

-- the record in this sector that can't be read, if there is one, as a damaged sector
abbrev pub record_damage : Layout → Side → List (List Byte) → Option Sector → List Damage
record_damage layout side image None = []
record_damage layout side image (Some at) = damage at (record_kind layout side image at) reason.Unreadable ∷ []

-- what is wrong with the record at which opening stops: if all can be read, a command of it is refused
abbrev pub record_fault : Option Sector → Reason
record_fault None = reason.Refused
record_fault (Some at) = reason.Unreadable

-- the first record of a side that can't be read. They are numbered after the commands that the header counts.
abbrev pub bad_record_in : Type 0 → Layout → Side → Header → List (List Byte) → Option Sector
bad_record_in A layout side h image = bad_record (half_of {A = A} (slot_form layout side image) h.count image (half_at layout side) (half_end layout side))

-- ---- a side

-- The damaged sectors from the row on at which opening stops: that one, each row after it with which something is wrong by
-- itself, and the first record that can't be read (`bad`).
abbrev pub after_row : Layout → Side → List (List Byte) → Header → Sector → Option Sector → List Damage
after_row layout side image h first bad =
    let place = first - slot_at layout side in
    damage first (kind_at h place) (fault_of_first (row_in (sector image first)))
    ∷ rows_damage image (slot_at layout side) h (place + 1) (row_count h - (place + 1)) ++ record_damage layout side image bad

-- the damaged sectors of a side with the header h, at whose sector `first` opening stops; `bad`: the first record that can't be read
abbrev pub after_header : Layout → Side → List (List Byte) → Sector → Header → Option Sector → List Damage
after_header layout s image first h bad =
    if nat_lt first (half_at layout side.A) then after_row layout s image h first bad
    else damage first (record_kind layout s image first) (record_fault bad) ∷ []

module _ (A : Type 0) where
  -- The damaged sectors of a side at whose sector `first` opening stops. If the header is damaged, nothing else can be judged.
  abbrev pub damage_by : Layout → Side → List (List Byte) → Sector → Option Header → List Damage
  damage_by layout side image first None = damage first kind.Header reason.Unreadable ∷ []
  damage_by layout side image first (Some h) =
      if header_may layout.limits h then after_header layout side image first h (bad_record_in A layout side h image)
      else damage first kind.Header reason.BeyondLimits ∷ []

  -- the damaged sectors of a side at whose sector `first` opening stops, by what the disk reads as
  unfoldable pub damage_from : Layout → Side → List (List Byte) → Sector → List Damage
  damage_from layout side image first = damage_by layout side image first (header_of (row_in (sector image (slot_at layout side))))

  -- the damaged sectors of a side in this state
  abbrev pub damage_in : Layout → Side → List (List Byte) → SideState → List Damage
  damage_in layout side image state.Unused = []
  damage_in layout side image (state.Whole figures) = []
  damage_in layout side image (state.Damaged epoch first) = damage_from layout side image first

-- the first of the damaged sectors is this one
abbrev pub Begins : Sector → List Damage → Type 0
Begins first damaged = (what : DamageKind) × (why : Reason) × (more : List Damage) × (damaged ≡ damage first what why ∷ more)

-- if the first damaged sector of old is some sector, it is also the first one of new
abbrev pub KeepsFirst : List Damage → List Damage → Type 0
KeepsFirst old new = (first : Sector) → Begins first old → Begins first new

-- damage is found where the side is damaged, and begins with the sector of its state
abbrev pub IsOfState : SideState → List Damage → Type 0
IsOfState state.Unused damaged = damaged ≡ []
IsOfState (state.Whole figures) damaged = damaged ≡ []
IsOfState (state.Damaged epoch first) damaged = Begins first damaged

-- a fault that a search for damage may report
abbrev pub IsOfDamage : StoreFault → Type 0
IsOfDamage Unformatted = ⊥
IsOfDamage BadGeometry = ⊥
IsOfDamage (Damaged at) = ⊥
IsOfDamage DiskFault = Unit {0}
IsOfDamage Broken = ⊥
IsOfDamage NoMemory = Unit {0}
IsOfDamage EpochsUsedUp = ⊥
IsOfDamage Unready = ⊥
