-- What the calls that open a disk answer.
use Rattle.std.specs.Prelude.{◌≡◌, ◌⊎◌, ◌+◌, ◌<◌, ◌≤◌, ℕ, Bool, true, false, List, [], ◌∷◌, ◌++◌, length, Some, Result, Ok, Err, IsTrue, if◌then◌else◌}
use Rattle.identity.specs.Numbers.{Byte}
use Rattle.sector_disk.specs.Numbers.{Sector, Sectors}
use Rattle.sector_disk.specs.Disk.{View, sector}
use Rattle.sector_disk.specs.declared.record.Call.{Call}
use Rattle.sector_disk.specs.declared.record.Call.TheVariants.{Read}
use Rattle.centre_core.specs.Asked.{Asked}
use Rattle.centre_core.specs.Memory.{needs_memory}
use Rattle.centre_core.specs.State.{State}
use Rattle.gated_journal.specs.declared.place.Place.{Place}
use Rattle.gated_journal.specs.declared.fault.JournalError.{JournalError}
use Rattle.gated_journal.specs.declared.fault.JournalError.TheVariants as journal
use Rattle.gated_journal.specs.Half.{RecordAt, Half, half_of, is_open}
use Rattle.gated_journal.specs.Reading.{HasRecords}
use Rattle.checkpoint.specs.declared.layout.Layout.{Layout}
use Rattle.checkpoint.specs.declared.side.Side.{Side}
use Rattle.checkpoint.specs.declared.side.Side.TheVariants as side
use Rattle.checkpoint.specs.Layout.{half_at, half_end, label_at, root_at, slot_at}
use Rattle.checkpoint.specs.Reading.{image_reads, read_calls}
use Rattle.checkpoint.specs.OnSide.{Base, RecordsAndGate, slot_form, slot_in}
use Rattle.recovery.specs.declared.fault.StoreFault.{StoreFault}
use Rattle.recovery.specs.declared.fault.StoreFault.TheVariants.{BadGeometry, Broken, Damaged, DiskFault, EpochsUsedUp, NoMemory, Unformatted, Unready}
use Rattle.recovery.specs.Label.{layout_in}
use Rattle.recovery.specs.Opens.{Reached, base_in, held_by, played, played_from, run, side_in}

-- a fault that an opening may report: all but those of a store that is open already
abbrev pub IsOfOpening : StoreFault → Type 0
IsOfOpening Unformatted = Unit {0}
IsOfOpening BadGeometry = Unit {0}
IsOfOpening (Damaged at) = Unit {0}
IsOfOpening DiskFault = Unit {0}
IsOfOpening Broken = ⊥
IsOfOpening NoMemory = Unit {0}
IsOfOpening EpochsUsedUp = ⊥
IsOfOpening Unready = ⊥

-- Below, `is` is the result that the disk determines as it reads. A fault that is reported is the one in `is`; but `DiskFault`
-- and `NoMemory` state nothing of `is`.
abbrev pub Fails : {Y : Type 0} → StoreFault → Result Y StoreFault → Type 0
Fails Unformatted is = is ≡ Err Unformatted
Fails BadGeometry is = is ≡ Err BadGeometry
Fails (Damaged at) is = is ≡ Err (Damaged at)
Fails DiskFault is = Unit {0}
Fails Broken is = is ≡ Err Broken
Fails NoMemory is = Unit {0}
Fails EpochsUsedUp is = is ≡ Err EpochsUsedUp
Fails Unready is = is ≡ Err Unready

-- A value that was read, as `view` models it, is the one in `is`. A fault is as `Fails` states.
abbrev pub IsValueIn : {X Y : Type 0} → (X → Y) → Result X StoreFault → Result Y StoreFault → Type 0
IsValueIn view (Ok x) is = is ≡ Ok (view x)
IsValueIn view (Err fault) is = Fails fault is

-- If commands were played without a fault, `is` has the state t that was reached. A fault is as `Fails` states.
abbrev pub PlaysTo : Result Unit StoreFault → State → Result State StoreFault → Type 0
PlaysTo (Ok u) t is = is ≡ Ok t
PlaysTo (Err fault) t is = Fails fault is

-- If records were played without a fault, `is` has the state t that was reached, and the gate that `gate` reads from the value.
-- A fault is as `Fails` states.
abbrev pub EndsAt : {X : Type 0} → (X → Sector) → Result X StoreFault → State → Result Reached StoreFault → Type 0
EndsAt gate (Ok x) t is = is ≡ Ok (t, gate x)
EndsAt gate (Err fault) t is = Fails fault is

-- A fault of reading a journal as a fault of the store. A journal that is only read is never full.
abbrev pub fault_of : JournalError → StoreFault
fault_of (journal.Damaged at) = Damaged at
fault_of journal.DiskFault = DiskFault
fault_of journal.NoMemory = NoMemory
fault_of journal.JournalFull = DiskFault

-- ---- records that are played as they are read

-- what the disk reads as from the next gate of a place on, up to this end
abbrev pub rest_in : (A : Type 0) → Place → Sector → View → Half A
rest_in A place end disk = half_of {A = A} place.form place.count disk.reads place.next end

module _ {A : Type 0} where
  -- `fault` was met, and these records after it were then judged. `is` has their first fault, or else the one that was met.
  abbrev pub Stops : StoreFault → Result (RecordsAndGate A) StoreFault → Result Reached StoreFault → Type 0
  Stops fault (Ok held) is = Fails fault is
  Stops fault (Err first) is = is ≡ Err first

  -- The state t is reached. `true`: one record more was played, and `rest` is still to be played. `false`: there is no record, and
  -- `gate` is closed. Or a fault is met before `rest`.
  abbrev pub PlaysOn : Result Bool StoreFault → State → Sector → Half A → Result Reached StoreFault → Type 0
  PlaysOn (Ok true) t gate rest is = is ≡ played_from t rest
  PlaysOn (Ok false) t gate rest is = is ≡ Ok (t, gate)
  PlaysOn (Err fault) t gate rest is = Stops fault (held_by rest) is

  -- all records were played, up to the state t and the closed gate `gate`, or a fault is met before `rest`
  abbrev pub StopsAt : Result Unit StoreFault → State → Sector → Half A → Result Reached StoreFault → Type 0
  StopsAt (Ok u) t gate rest is = is ≡ Ok (t, gate)
  StopsAt (Err fault) t gate rest is = Stops fault (held_by rest) is

-- ---- out of memory

-- from old to new there were more calls than sectors from first up to end: some sector was read again
abbrev pub HasReadAgain : List Call → List Call → Sector → Sector → Type 0
HasReadAgain old new first end = length old + end < length new + first

module _ {A : Type 0} where
  -- Of these commands the first ones are accepted in turn, from s to t. The next one needs memory in t.
  pub record NeedsMemory (s : State) (commands : List (Asked A)) (t : State) : Type 0 where
    pub done : List (Asked A)
    pub next : Asked A
    pub later : List (Asked A)
    pub all : commands ≡ done ++ next ∷ later
    pub accepted : run s done ≡ Some t
    pub needs : IsTrue (needs_memory t next)

  -- Of these records the first ones are played, each of their commands accepted. Memory ran out for the next one: to read it,
  -- and then `Again` holds; or for one of its commands, after others that are accepted.
  pub record IsCutShort (s : State) (entries : List (RecordAt A)) (Again : Type 0) : Type 0 where
    pub done : List (RecordAt A)
    pub next : RecordAt A
    pub later : List (RecordAt A)
    pub state : State
    pub all : entries ≡ done ++ next ∷ later
    pub accepted : played s done ≡ Ok state
    pub stops : Again ⊎ ((t : State) × NeedsMemory state next.1 t)

-- the reads that find the header of a side: that of its root and, if this is open, that of the first sector of its slot
abbrev pub header_reads : Layout → Side → List (List Byte) → List Call
header_reads layout side image = Read (root_at side) ∷ (if is_open (sector image (root_at side)) then Read (slot_at layout side) ∷ [] else [])

-- the reads that find the side that counts: that of the label, and those that find the header of each side
abbrev pub side_reads : Layout → List (List Byte) → List Call
side_reads layout image = Read label_at ∷ (header_reads layout side.A image ++ header_reads layout side.B image)

-- The calls are those in `before`, and then reads of the first `read` sectors of the side's slot, each once, in order. None of
-- these sectors is the slot's first bad one.
pub record AreGoodRows (layout : Layout) (side : Side) (image : List (List Byte)) (before calls : List Call) : Type 0 where
  pub read : Sectors
  pub last : calls ≡ before ++ read_calls (slot_at layout side) read
  pub good : (place : ℕ) → slot_in layout side image ≡ Err place → read ≤ place

-- All rows of the side's image are good, and its half has good records up to a closed gate. Those that were played are
-- accepted, up to one that memory ran out for: it could not be read, and so was read again, or one of its commands needs
-- memory.
pub record AreAllGood (A : Type 0) (layout : Layout) (side : Side) (image : List (List Byte)) (before calls : List Call) : Type 0 where
  pub base : Base
  pub rows : base_in layout side image ≡ Ok base
  pub records : HasRecords A (slot_form layout side image) base.1.count image (half_at layout side) (half_end layout side)
  pub cut : IsCutShort base.1 records.0.0 (HasReadAgain (before ++ image_reads (slot_at layout side) base) calls
      (half_at layout side) (records.0.1 + 1))

-- The reads of a side after the calls in `before` met no fault. Either only rows of the side were read, and these are good. Or
-- all its rows and all its records are good, and those that were played are accepted.
abbrev pub AreGoodSoFar : Type 0 → Layout → Side → List (List Byte) → List Call → List Call → Type 0
AreGoodSoFar A layout side image before calls = AreGoodRows layout side image before calls ⊎ AreAllGood A layout side image before calls

-- No fault was met, and the image has a label and a side that counts. The calls are those in `before`, then the reads that find
-- this side, and then reads of the side that met no fault (`AreGoodSoFar`).
pub record HasNoFaultYet (A : Type 0) (image : List (List Byte)) (before calls : List Call) : Type 0 where
  pub layout : Layout
  pub side : Side
  pub label : layout_in image ≡ Ok layout
  pub counts : side_in layout image ≡ Ok side
  pub good : AreGoodSoFar A layout side image (before ++ side_reads layout image) calls
