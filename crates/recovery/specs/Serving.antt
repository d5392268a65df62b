-- What a store is as a desk.
use Rattle.std.specs.Prelude.{◌≡◌, ◌⊎◌, ℕ, Bool, true, false, IsTrue, List, ◌++◌, OnOk, Result, if◌then◌else◌, is_some, nat_le}
use Rattle.identity.specs.Numbers.{Byte}
use Rattle.sector_disk.specs.Disk.{View}
use Rattle.sector_disk.specs.Run.{HasCalled, HasMade}
use Rattle.sector_disk.specs.declared.disk.Disk.{Ghosts}
use Rattle.sector_disk.specs.declared.record.Call.{Call}
use Rattle.centre_core.specs.Asked.{Asked}
use Rattle.centre_core.specs.State.{State}
use Rattle.centre_core.specs.History.{accepts, next}
use Rattle.image_rows.specs.Numbers.{Epoch}
use Rattle.image_rows.specs.Rows.{last_epoch}
use Rattle.gated_journal.specs.Settled.{following}
use Rattle.checkpoint.specs.Calls.{is_root_open}
use Rattle.checkpoint.specs.Layout.{other_of}
use Rattle.desk.specs.OfStore.{Stored}
use Rattle.desk.specs.declared.outage.Outage.{Outage}
use Rattle.desk.specs.declared.outage.Outage.TheVariants as outage
use Rattle.recovery.specs.Calls.{commit_calls_by, room_calls_by}
use Rattle.recovery.specs.AfterCommit.{HasKept, with_room}
use Rattle.recovery.specs.Lives.{StaysKept, StopsLeave, StoreView}
use Rattle.recovery.specs.Outcomes.{AreRecorded, OpensToEither}
use Rattle.recovery.specs.UnderWay.{MayBegin}
use Rattle.recovery.specs.declared.store.Store.{Store}
use Rattle.recovery.specs.declared.fault.StoreFault.{StoreFault}
use Rattle.recovery.specs.declared.fault.StoreFault.TheVariants.{BadGeometry, Broken, Damaged, DiskFault, EpochsUsedUp, NoMemory, Unformatted, Unready}

-- The outage word for a fault of a desk's commit. The other faults have none: a desk does not report them.
abbrev pub IsWordFor : StoreFault → Outage → Type 0
IsWordFor DiskFault word = word ≡ outage.Device
IsWordFor Broken word = word ≡ outage.Broken
IsWordFor NoMemory word = word ≡ outage.Memory
IsWordFor EpochsUsedUp word = word ≡ outage.Epochs
IsWordFor Unformatted word = ⊥
IsWordFor BadGeometry word = ⊥
IsWordFor (Damaged at) word = ⊥
IsWordFor Unready word = ⊥

-- the register that a store shows: its own, or, once it is broken, the one from before the call that broke it
abbrev pub shown : Bool → State → State → State
shown true before register = before
shown false before register = register

-- The model of a store: by the failures of its disk, its epoch, whether it is broken, its register before the current call, and
-- its register.
abbrev pub stored_of : ℕ → Epoch → Bool → State → State → Stored
stored_of failures epoch broken before register = record {
  register = shown broken before register;
  broken = broken;
  failures = failures;
  last = nat_le last_epoch epoch;
}

-- the model of this store
abbrev pub stored_in : {A D : Type 0} {g : Ghosts D} → (D → View) → Store A D g → Stored
stored_in view store = stored_of (view store.disk).failures store.epoch store.broken store.before.value store.register

-- t is the state s, or s accepts the command c, and t is the state after it
abbrev pub IsAfterOne : {B : Type 0} → State → Asked B → State → Type 0
IsAfterOne s c t = (t ≡ s) ⊎ (IsTrue (accepts s c) × (t ≡ next s c))

-- What is on the disk: the register is as before, or the command was accepted. Each stop leaves a disk that opens to one of the two,
-- and after the call to the register then, unless the disk has failed.
pub record HoldsOne {B D : Type 0} (A : Type 0) (view : D → View) (old new : StoreView A D) (command : Asked B) : Type 0 where
  pub register : IsAfterOne old.register command new.register
  pub any_moment : StopsLeave A view old new (OpensToEither A old.register new.register)
  pub kept : new.broken ≡ false → StaysKept A view old new

module _ {A D : Type 0} (old : StoreView A D) (fits : Bool) (kept : List (Asked A)) (begins : Bool) where
  -- a checkpoint that begins after the record may begin
  abbrev pub MayBeginBy : Type 0
  MayBeginBy = let now = with_room fits old in begins ≡ true → MayBegin now.layout now.epoch (following now.journal kept)

  -- The calls of the disk that a desk makes for a command: those of a checkpoint if a record of it would not fit, and then those
  -- of a commit that keeps it. Each of the two reads the other side's root as open or closed.
  abbrev pub desk_calls_by : Bool → Bool → List Call
  desk_calls_by was_open also_open =
      let now = with_room fits old in
      room_calls_by old.layout old.side old.epoch old.register was_open fits
      ++ commit_calls_by now.layout now.side now.epoch now.journal now.ongoing kept begins also_open

  -- The calls of the disk that a desk makes for a command, where the sectors read so before the call. A checkpoint reads the
  -- other side's root as it is there. So does a commit without a checkpoint before it. After a checkpoint `also_open` states
  -- how the commit reads the root of the side that no longer counts.
  abbrev pub desk_calls : List (List Byte) → Bool → List Call
  desk_calls reads also_open = desk_calls_by (is_root_open (other_of old.side) reads) (if fits then is_root_open (other_of old.side) reads else also_open)

-- The calls of a desk that keeps the accepted ones of these commands: at `Ok` the disk has had all of them, and after an error
-- a prefix. At `Ok` the store is where the recorded commands leave it (`HasKept`). On an honest disk the other side's root is
-- first read as it is in old, on any other disk as open or as closed.
pub record DeskCalls {D B T E : Type 0} (A : Type 0) (view : D → View) (old new : StoreView A D) (fits : Bool) (commands : List (Asked B))
    (result : Result T E) : Type 0 where
  pub calls : OnOk result ((view old.disk).honest → (recorded : List (Asked A)) × (also_open : Bool)
      × AreRecorded A old.register commands new.register recorded × HasKept (with_room fits old) new recorded
      × HasCalled (view old.disk) (view new.disk) (desk_calls old fits recorded (is_some new.ongoing) (view old.disk).reads also_open))
  pub some_calls :
      (view old.disk).honest → (recorded : List (Asked A)) × (begins : Bool) × (also_open : Bool)
      × AreRecorded A old.register commands new.register recorded × MayBeginBy old fits recorded begins
      × HasMade (view old.disk) (view new.disk) (desk_calls old fits recorded begins (view old.disk).reads also_open)
  pub calls_on_any_disk : OnOk result ((recorded : List (Asked A)) × (was_open : Bool) × (also_open : Bool)
      × AreRecorded A old.register commands new.register recorded × HasKept (with_room fits old) new recorded
      × HasCalled (view old.disk) (view new.disk) (desk_calls_by old fits recorded (is_some new.ongoing) was_open also_open))
  pub some_calls_on_any_disk :
      (recorded : List (Asked A)) × (begins : Bool) × (was_open : Bool) × (also_open : Bool)
      × AreRecorded A old.register commands new.register recorded × MayBeginBy old fits recorded begins
      × HasMade (view old.disk) (view new.disk) (desk_calls_by old fits recorded begins was_open also_open)
