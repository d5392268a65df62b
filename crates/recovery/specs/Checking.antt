-- What a check of a disk reports: the state of each side, and what opening makes of the two.
use Rattle.std.specs.Prelude.{◌≡◌, ◌⊎◌, ◌++◌, ◌∷◌, ◌==◌, Bool, false, true, List, [], Option, Some, None, Result, Ok, Err, nat_lt, if◌then◌else◌}
use Rattle.std.specs.Option.{option_or}
use Rattle.identity.specs.Numbers.{Byte}
use Rattle.sector_disk.specs.Numbers.{Sector}
use Rattle.sector_disk.specs.Disk.{View}
use Rattle.sector_disk.specs.Reading.{before_reads}
use Rattle.sector_disk.specs.declared.record.Call.{Call}
use Rattle.sector_disk.specs.declared.record.Call.TheVariants.{Read, Sync}
use Rattle.image_rows.specs.Numbers.{Epoch}
use Rattle.checkpoint.specs.declared.layout.Layout.{Layout}
use Rattle.checkpoint.specs.declared.side.Side.{Side}
use Rattle.checkpoint.specs.declared.side.Side.TheVariants as side
use Rattle.checkpoint.specs.Layout.{label_at, root_at}
use Rattle.recovery.specs.declared.figures.Figures.{Figures}
use Rattle.recovery.specs.declared.fault.StoreFault.{StoreFault}
use Rattle.recovery.specs.declared.fault.StoreFault.TheVariants.{BadGeometry, Broken, Damaged, DiskFault, EpochsUsedUp, NoMemory, Unformatted, Unready}
use Rattle.recovery.specs.declared.checking.Checked.{Checked}
use Rattle.recovery.specs.declared.checking.SideState.{SideState}
use Rattle.recovery.specs.declared.checking.SideState.TheVariants as state
use Rattle.recovery.specs.Figures.{figures_in}
use Rattle.recovery.specs.Label.{layout_in}
use Rattle.recovery.specs.Opening.{AreGoodSoFar, Fails, header_reads}
use Rattle.recovery.specs.Opens.{Opening, opens_by, side_at, ◌>>=◌}

-- ---- the state of a side

-- the sector that `Damaged` names, else that of the label; no other fault is met on a side
abbrev pub sector_of : StoreFault → Sector
sector_of (Damaged at) = at
sector_of other = label_at

-- the state of a side with this epoch in its header, by what it opens to
abbrev pub state_by : Epoch → List (List Byte) → Result Opening StoreFault → SideState
state_by epoch image (Ok opening) = state.Whole (figures_in opening image)
state_by epoch image (Err fault) = state.Damaged (Some epoch) (sector_of fault)

-- the state of a side, by its header and by what it opens to
abbrev pub stated : List (List Byte) → Result (Option Epoch) StoreFault → Result Opening StoreFault → SideState
stated image (Err fault) opened = state.Damaged None (sector_of fault)
stated image (Ok None) opened = state.Unused
stated image (Ok (Some epoch)) opened = state_by epoch image opened

module _ (A : Type 0) where
  -- the state of a side
  unfoldable pub state_in : Layout → Side → List (List Byte) → SideState
  state_in layout side image = stated image (side_at layout side image) (opens_by A layout side image)

  -- the layout of an image and the states of its sides, or why it has no layout
  unfoldable pub checked_in : List (List Byte) → Result Checked StoreFault
  checked_in image = do
    layout ← layout_in image
    Ok (record { layout = layout; a = state_in layout side.A image; b = state_in layout side.B image })

-- a fault of reading a side: damage is the state of the side, another fault stays one
abbrev pub state_after : Option Epoch → StoreFault → Result SideState StoreFault
state_after epoch (Damaged at) = Ok (state.Damaged epoch at)
state_after epoch other = Err other

-- the side is damaged, and `at` is its first damaged sector
abbrev pub IsDamagedAt : Sector → SideState → Type 0
IsDamagedAt at (state.Damaged epoch sector) = sector ≡ at
IsDamagedAt at state.Unused = ⊥
IsDamagedAt at (state.Whole contents) = ⊥

-- the side has a damaged sector
abbrev pub is_damaged : SideState → Bool
is_damaged (state.Damaged epoch sector) = true
is_damaged state.Unused = false
is_damaged (state.Whole contents) = false

-- the first damaged sector of a side, if it has one
abbrev pub damaged_sector : SideState → Option Sector
damaged_sector (state.Damaged epoch at) = Some at
damaged_sector state.Unused = None
damaged_sector (state.Whole contents) = None

-- the first damaged sector of side A, or else of side B
abbrev pub first_damaged : SideState → SideState → Option Sector
first_damaged a b = option_or (damaged_sector a) (damaged_sector b)

-- ---- what opening makes of two sides

-- the figures of the side that opening takes, or the sector at which it stops
abbrev pub Taken : Type 0
Taken = Result Figures Sector

-- the epoch of a side, if its root is open; or the sector of its header, which could not be read
abbrev pub epoch_of : SideState → Result (Option Epoch) Sector
epoch_of state.Unused = Ok None
epoch_of (state.Whole figures) = Ok (Some figures.epoch)
epoch_of (state.Damaged (Some epoch) at) = Ok (Some epoch)
epoch_of (state.Damaged None at) = Err at

-- what opening makes of a side in this state, whose root is in this sector
abbrev pub taken_from : Sector → SideState → Taken
taken_from root state.Unused = Err root
taken_from root (state.Whole figures) = Ok figures
taken_from root (state.Damaged epoch at) = Err at

-- the side of the greater epoch, of two with these epochs; none if they are equal
abbrev pub greater : Epoch → Epoch → Option Side
greater a b = if a == b then None else if nat_lt a b then Some side.B else Some side.A

-- what opening makes of two sides with open roots, of which this one has the greater epoch; if their epochs are equal, root B is at fault
abbrev pub taken_of : Option Side → Taken → Taken → Taken
taken_of None a b = Err (root_at side.B)
taken_of (Some side.A) a b = a
taken_of (Some side.B) a b = b

-- what opening makes of two sides, by their epochs and by what it makes of each
abbrev pub taken_by : Result (Option Epoch) Sector → Result (Option Epoch) Sector → Taken → Taken → Taken
taken_by (Err at) second a b = Err at
taken_by (Ok first) (Err at) a b = Err at
taken_by (Ok None) (Ok None) a b = Err (root_at side.A)
taken_by (Ok (Some x)) (Ok None) a b = a
taken_by (Ok None) (Ok (Some y)) a b = b
taken_by (Ok (Some x)) (Ok (Some y)) a b = taken_of (greater x y) a b

-- what opening makes of sides in these states
abbrev pub opened_by : SideState → SideState → Taken
opened_by a b = taken_by (epoch_of a) (epoch_of b) (taken_from (root_at side.A) a) (taken_from (root_at side.B) b)

-- what a check reports of opening is what the image opens to
abbrev pub Agrees : List (List Byte) → Taken → Result Opening StoreFault → Type 0
Agrees image (Ok figures) opened = (opening : Opening) × (opened ≡ Ok opening) × (figures ≡ figures_in opening image)
Agrees image (Err at) opened = opened ≡ Err (Damaged at)

-- ---- the answer

module _ (A : Type 0) (image : List (List Byte)) where
  -- the image has a layout, and P holds of what a check finds on it
  abbrev pub Finds : (Checked → Type 0) → Type 0
  Finds P = (checked : Checked) × (checked_in A image ≡ Ok checked) × P checked

  -- What a check of the image answers: what it finds, or why the image has no layout. Damage that is reported as a fault is that of side A:
  -- memory ran out after it was found.
  abbrev pub IsCheckOf : Result Checked StoreFault → Type 0
  IsCheckOf (Ok checked) = checked_in A image ≡ Ok checked
  IsCheckOf (Err (Damaged at)) = Finds (λ checked. IsDamagedAt at checked.a)
  IsCheckOf (Err fault) = Fails fault (checked_in A image)

-- the fault to be reported of a disk with this damaged sector: damage, where memory ran out
abbrev pub unless_damaged : Option Sector → StoreFault → StoreFault
unless_damaged (Some at) NoMemory = Damaged at
unless_damaged (Some at) fault = fault
unless_damaged None fault = fault

-- a fault of a call that has damage in its answer, not as a fault
abbrev pub IsNoDamage : StoreFault → Type 0
IsNoDamage Unformatted = Unit {0}
IsNoDamage BadGeometry = Unit {0}
IsNoDamage (Damaged at) = ⊥
IsNoDamage DiskFault = Unit {0}
IsNoDamage Broken = ⊥
IsNoDamage NoMemory = Unit {0}
IsNoDamage EpochsUsedUp = ⊥
IsNoDamage Unready = ⊥

-- ---- out of memory

-- The side's root is open, and its slot begins with a header. The calls are those in `before`, then the reads that find this
-- header, and then reads of the side that met no fault (`AreGoodSoFar`).
pub record IsGoodSideSoFar (A : Type 0) (layout : Layout) (side : Side) (image : List (List Byte)) (before calls : List Call) : Type 0 where
  pub epoch : Epoch
  pub header : side_at layout side image ≡ Ok (Some epoch)
  pub good : AreGoodSoFar A layout side image (before ++ header_reads layout side image) calls

-- Side A is not damaged. After some calls side B was read, and no fault was met on it.
pub record IsGoodAfterA (A : Type 0) (layout : Layout) (image : List (List Byte)) (calls : List Call) : Type 0 where
  pub a : is_damaged (state_in A layout side.A image) ≡ false
  pub earlier : List Call
  pub b : IsGoodSideSoFar A layout side.B image earlier calls

-- The image has a label. Side B was read from its root on, and is good so far.
pub record IsGoodAtB (A : Type 0) (image : List (List Byte)) (calls : List Call) : Type 0 where
  pub layout : Layout
  pub label : layout_in image ≡ Ok layout
  pub earlier : List Call
  pub b : IsGoodSideSoFar A layout side.B image earlier calls

-- No damage was met, and the image has a label. Either the calls are those in `before`, a read of the label, and reads of side
-- A that met no fault. Or side A is not damaged, and the last calls are reads of side B that met no fault.
pub record HasNoDamageYet (A : Type 0) (image : List (List Byte)) (before calls : List Call) : Type 0 where
  pub layout : Layout
  pub label : layout_in image ≡ Ok layout
  pub last : IsGoodSideSoFar A layout side.A image (before ++ Read label_at ∷ []) calls ⊎ IsGoodAfterA A layout image calls

-- ---- calls

-- one sync is called, and then only reads
abbrev pub HasSynced : View → View → Type 0
HasSynced old new = before_reads new.calls ≡ old.calls ++ Sync ∷ []

-- one sync is called, and then only reads; or nothing is, with a fault of the device
abbrev pub HasSyncedUnless : View → View → StoreFault → Type 0
HasSyncedUnless old new fault = HasSynced old new ⊎ ((fault ≡ DiskFault) × (new.calls ≡ old.calls))
