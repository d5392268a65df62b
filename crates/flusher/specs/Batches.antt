-- What becomes of a batch.
use Rattle.std.specs.Prelude.{◌≡◌, ◌⊎◌, ◌<◌, ◌≤◌, ◌-◌, ℕ, Bool, true, false, not, List, [], ◌∷◌, ◌++◌, length, map, slice_set, Result, Ok, Err, Vec}
use Rattle.std.specs.List.{AllByRecursion}
use Rattle.std.specs.declared.alloc.Global.{Global}
use Rattle.centre_core.specs.Asked.{Asked}
use Rattle.centre_core.specs.declared.reply.Reply.TheVariants.{Accepted, Kept, Refused}
use Rattle.centre_core.specs.Same.{under}
use Rattle.image_rows.specs.Rows.{last_epoch}
use Rattle.sector_disk.specs.Disk.{HasFailed, View}
use Rattle.sector_disk.specs.Run.{LeavesOnly}
use Rattle.gated_journal.specs.declared.place.Place.{Place}
use Rattle.gated_journal.specs.Record.{data_size, record_text}
use Rattle.gated_journal.specs.Settled.{room_of}
use Rattle.station_queue.specs.declared.entry.Entry.{Entry}
use Rattle.station_queue.specs.declared.entry.Entry.TheVariants.{Submitted, Ended}
use Rattle.station_queue.specs.Ends.{Taking}
use Rattle.station_queue.specs.Entries.{station_of}
use Rattle.flusher.specs.declared.committing.Attempts.{Attempts}
use Rattle.flusher.specs.Attempts.{WasOutOfMemory}
use Rattle.recovery.specs.declared.outcome.Outcome.{Outcome}
use Rattle.recovery.specs.declared.outcome.Outcome.TheVariants as outcome
use Rattle.recovery.specs.declared.fault.StoreFault.{StoreFault}
use Rattle.recovery.specs.declared.fault.StoreFault.TheVariants.{BadGeometry, Broken, Damaged, DiskFault, EpochsUsedUp, NoMemory, Unformatted, Unready}
use Rattle.recovery.specs.AfterCommit.{HasKept, HasRoom, with_room}
use Rattle.recovery.specs.Lives.{StoreView, IsStoredIn}
use Rattle.recovery.specs.Outcomes.{AreRecorded, IsAnswered, IsAfterBatch, OpensToEither}

-- ---- taking

-- These entries were taken: 64, or fewer if the queue was found empty. If none was taken, the queue was perhaps found empty earlier.
pub record HasTaken (old : Taking) (popped : List Entry) (new : Taking) : Type 0 where
  pub taken : new.taken ≡ old.taken ++ popped
  pub most : length popped ≤ 64
  pub all : (length popped ≡ 64) ⊎ (new.empty ≡ true)
  pub queue : new.queue ≡ old.queue
  pub made : new.made ≡ old.made
  pub settled : new.settled ≡ old.settled
  pub stations : AllByRecursion (λ (x : Entry). (0 < station_of x) × (station_of x ≤ old.made)) popped

-- the flags of the stations whose end was taken, with these entries
abbrev pub ended_by : List Entry → List Bool → List Bool
ended_by [] flags = flags
ended_by (Submitted request ∷ xs) flags = ended_by xs flags
ended_by (Ended station ∷ xs) flags = ended_by xs (slice_set flags (station - 1) true)

-- each command is of one of the stations 1 to n
abbrev pub AreWithin : ℕ → List (Asked Global) → Type 0
AreWithin n cs = AllByRecursion (λ (c : Asked Global). (0 < c.station) × (c.station ≤ n)) cs

-- ---- committing

-- the commands that were accepted, by their outcomes
abbrev pub accepted_by : List (Asked Global) → List (Outcome Global) → List (Asked Global)
accepted_by [] os = []
accepted_by (c ∷ cs) [] = []
accepted_by (c ∷ cs) (outcome.Replied (Accepted n p) ∷ os) = c ∷ accepted_by cs os
accepted_by (c ∷ cs) (outcome.Replied (Kept n p) ∷ os) = accepted_by cs os
accepted_by (c ∷ cs) (outcome.Replied (Refused r) ∷ os) = accepted_by cs os
accepted_by (c ∷ cs) (outcome.NoMemory ∷ os) = accepted_by cs os

-- a record of these commands, after the commands that the place counts, does not fit there
abbrev pub LacksRoom : Place → List (Asked Global) → Type 0
LacksRoom place commands = room_of place < data_size (record_text place.form place.count (map (under Global) commands))

module _ {D : Type 0} (old new : StoreView Global D) where
  -- nothing was committed
  pub record IsUndone : Type 0 where
    pub register : new.register ≡ old.register
    pub sound : new.broken ≡ false

  -- a checkpoint was made, and nothing was committed
  pub record IsAfterCheckpoint : Type 0 where
    pub undone : IsUndone
    pub layout : new.layout ≡ old.layout
    pub room : HasRoom old new false

  -- a checkpoint of a sound store was made, or this is why not
  abbrev pub HasMadeRoom : Result (Unit {0}) StoreFault → Type 0
  HasMadeRoom (Ok done) = IsAfterCheckpoint
  HasMadeRoom (Err DiskFault) = (new.register ≡ old.register) × (new.broken ≡ true)
  HasMadeRoom (Err EpochsUsedUp) = (new ≡ old) × (last_epoch ≤ old.epoch)
  HasMadeRoom (Err NoMemory) = ⊥
  HasMadeRoom (Err Unready) = ⊥
  HasMadeRoom (Err Broken) = ⊥
  HasMadeRoom (Err Unformatted) = ⊥
  HasMadeRoom (Err BadGeometry) = ⊥
  HasMadeRoom (Err (Damaged at)) = ⊥

module _ {D : Type 0} (commands : List (Asked Global)) (old new : StoreView Global D) where
  -- each command was answered by its outcome, and the store is sound
  pub record IsDone (outcomes : List (Outcome Global)) : Type 0 where
    pub answered : IsAnswered old.register commands new.register outcomes
    pub sound : new.broken ≡ false

  -- The accepted commands are kept as one record. It follows the records of the store if it fits (`fits`), else a checkpoint that made room.
  pub record AreKept (fits : Bool) : Type 0 where
    pub recorded : List (Asked Global)
    pub these : AreRecorded Global old.register commands new.register recorded
    pub kept : HasKept (with_room fits old) new recorded

  -- the accepted commands are kept as one record, and a checkpoint was made only if a record of all the commands would not fit
  pub record HasRecorded : Type 0 where
    pub made_room : Bool
    pub lacks : made_room ≡ true → LacksRoom old.journal commands
    pub record_is : AreKept (not made_room)

  -- The disk failed in the call: in a checkpoint before the commit, or in the commit. The register is the one before the call, or the one
  -- after a prefix of the commands. If it failed in a checkpoint, a record of all the commands would not fit, and the register is the one
  -- before the call
  pub record HasBroken : Type 0 where
    pub broken : new.broken ≡ true
    pub some : commands ≡ [] → ⊥
    pub in_checkpoint : Bool
    pub lacks : in_checkpoint ≡ true → LacksRoom old.journal commands
    pub unmoved : in_checkpoint ≡ true → new.register ≡ old.register
    pub register : (new.register ≡ old.register) ⊎ IsAfterBatch old.register commands new.register

  -- why a call on a sound store was refused. `was` and `now` count the commits tried before and after the call
  abbrev pub IsRefusedBy : StoreFault → Attempts → Attempts → Type 0
  IsRefusedBy DiskFault was now = HasBroken
  IsRefusedBy NoMemory was now = IsUndone old new × WasOutOfMemory was now × HasRecorded
  IsRefusedBy EpochsUsedUp was now = (new ≡ old) × (last_epoch ≤ old.epoch) × LacksRoom old.journal commands
  IsRefusedBy Broken was now = ⊥
  IsRefusedBy Unready was now = ⊥
  IsRefusedBy Unformatted was now = ⊥
  IsRefusedBy BadGeometry was now = ⊥
  IsRefusedBy (Damaged at) was now = ⊥

  -- The result of a commit of a sound store. At `Unready` a record of all the commands would not fit, and nothing is changed.
  abbrev pub HasTried : Result (Vec (Outcome Global) Global) StoreFault → Type 0
  HasTried (Ok outcomes) = IsDone outcomes.items × AreKept true
  HasTried (Err DiskFault) = HasBroken
  HasTried (Err NoMemory) = new ≡ old
  HasTried (Err Unready) = (new ≡ old) × LacksRoom old.journal commands
  HasTried (Err EpochsUsedUp) = ⊥
  HasTried (Err Broken) = ⊥
  HasTried (Err Unformatted) = ⊥
  HasTried (Err BadGeometry) = ⊥
  HasTried (Err (Damaged at)) = ⊥

  -- The result of a commit of a sound store that first makes a checkpoint if a record of all the commands would not fit. `was` and `now` count
  -- the commits tried before and after it.
  abbrev pub IsAnswerOf : Result (Vec (Outcome Global) Global) StoreFault → Attempts → Attempts → Type 0
  IsAnswerOf (Ok outcomes) was now = IsDone outcomes.items × HasRecorded
  IsAnswerOf (Err fault) was now = IsRefusedBy fault was now

module _ {D : Type 0} (view : D → View) where
  -- a stop at any moment of the call leaves a disk that opens to the register before the call or after it; without a failure of the disk,
  -- the register after the call is stored
  pub record KeepsImages (old new : StoreView Global D) : Type 0 where
    pub honest : (view new.disk).honest
    pub any_moment : LeavesOnly (view old.disk) (view new.disk) (OpensToEither Global old.register new.register)
    pub kept : new.broken ≡ false → IsStoredIn Global view new

  -- if the disk is honest and the register was stored on it before the call, `KeepsImages` holds
  abbrev pub HoldsImages : StoreView Global D → StoreView Global D → Type 0
  HoldsImages old new = (view old.disk).honest → IsStoredIn Global view old → KeepsImages old new

  -- a call breaks the store only if the disk failed in it
  pub record FailsByDisk (old new : StoreView Global D) : Type 0 where
    pub later : (view old.disk).failures ≤ (view new.disk).failures
    pub failed : new.broken ≡ true → HasFailed (view old.disk) (view new.disk)
