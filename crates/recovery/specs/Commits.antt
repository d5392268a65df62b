-- What a call of a store writes: the calls of its disk, and what each stop within them leaves.
use Rattle.std.specs.Prelude.{◌≡◌, Bool, true, List, OnOk, Option, Result, is_some}
use Rattle.sector_disk.specs.Disk.{View, sector}
use Rattle.sector_disk.specs.Run.{HasCalled, HasMade, LeavesOnly}
use Rattle.sector_disk.specs.declared.record.Call.{Call}
use Rattle.centre_core.specs.Asked.{Asked}
use Rattle.centre_core.specs.State.{State}
use Rattle.centre_core.specs.History.{after}
use Rattle.centre_core.specs.Histories.{IsHistory}
use Rattle.image_rows.specs.Numbers.{Epoch}
use Rattle.gated_journal.specs.Settled.{following}
use Rattle.checkpoint.specs.declared.layout.Layout.{Layout}
use Rattle.checkpoint.specs.declared.side.Side.{Side}
use Rattle.checkpoint.specs.Calls.{MakesCallsByRoot, is_root_open}
use Rattle.checkpoint.specs.Layout.{other_of, root_at}
use Rattle.recovery.specs.declared.ongoing.Ongoing.{Ongoing}
use Rattle.recovery.specs.Calls.{ongoing_calls, checkpoint_calls_by, commit_calls_by, room_calls_by}
use Rattle.recovery.specs.AfterCommit.{HasKept}
use Rattle.recovery.specs.Lives.{IsKeptAs, StoreView, WhereKeptAs}
use Rattle.recovery.specs.Outcomes.{AreRecorded, OpensToEither}
use Rattle.recovery.specs.UnderWay.{MayBegin}

-- does the root of the side that does not count read as open?
abbrev pub is_other_open : {A D : Type 0} → (D → View) → StoreView A D → Bool
is_other_open view store = is_root_open (other_of store.side) (view store.disk).reads

-- ---- a checkpoint

-- the disk has had the calls of a checkpoint of this state, as `MakesCallsByRoot` states
abbrev pub CheckpointCalls : {T E : Type 0} → Layout → Side → Epoch → State → View → View → Result T E → Type 0
CheckpointCalls layout side epoch state old new result =
    MakesCallsByRoot old new (other_of side) (checkpoint_calls_by layout side epoch state) result

-- The calls of a step in which a checkpoint may begin. `calls_by` lists them by whether one begins, and by whether the root of the other
-- side, not `side`, was read as open. After an `Ok` a checkpoint is under way or not (`begun`), and the disk has had all of the calls. After
-- an error it has had a prefix: a call that fails is the last. A checkpoint begins only where `May` holds. A disk that is not honest may read
-- that root as open or as closed.
pub record MakesCallsBeside {T E : Type 0} (old new : View) (side : Side) (begun : Bool) (May : Type 0)
    (calls_by : Bool → Bool → List Call) (result : Result T E) : Type 0 where
  pub calls : OnOk result (old.honest → HasCalled old new (calls_by begun (is_root_open (other_of side) old.reads)))
  pub some_calls :
      old.honest → (begins : Bool) × (begins ≡ true → May) × HasMade old new (calls_by begins (is_root_open (other_of side) old.reads))
  pub calls_on_any_disk : OnOk result ((was_open : Bool) × HasCalled old new (calls_by begun was_open))
  pub some_calls_on_any_disk :
      (begins : Bool) × (was_open : Bool) × (begins ≡ true → May) × HasMade old new (calls_by begins was_open)

module _ {D : Type 0} (A : Type 0) (view : D → View) (old new : StoreView A D) where
  -- ---- room for a record

  -- the disk has had no calls if the record fits, else those of a checkpoint, as `MakesCallsByRoot` states
  abbrev pub RoomCalls : {T E : Type 0} → Bool → Result T E → Type 0
  RoomCalls fits result =
      MakesCallsByRoot (view old.disk) (view new.disk) (other_of old.side)
      (λ was_open. room_calls_by old.layout old.side old.epoch old.register was_open fits) result

  -- ---- after a record

  -- after a record the disk has had the calls of the checkpoint that is under way, or of one that begins (`MakesCallsBeside`)
  abbrev pub OngoingCalls : {T E : Type 0} → Option (Ongoing A) → Result T E → Type 0
  OngoingCalls ongoing result =
      MakesCallsBeside (view old.disk) (view new.disk) old.side (is_some new.ongoing) (MayBegin old.layout old.epoch old.journal)
      (ongoing_calls old.layout old.side old.epoch ongoing) result

  -- ---- a record

  -- A stop leaves none or all of these commands, whatever state the register was kept in.
  abbrev pub LeavesNoneOrAll : {B : Type 0} → List (Asked B) → Type 0
  LeavesNoneOrAll commands =
      (state : State) → IsHistory state commands
      → WhereKeptAs A view state old (LeavesOnly (view old.disk) (view new.disk) (OpensToEither A state (after state commands)))

  -- the new store keeps the register with all of these commands
  abbrev pub KeepsAll : {B : Type 0} → List (Asked B) → Type 0
  KeepsAll commands = (state : State) → IsHistory state commands → WhereKeptAs A view state old (IsKeptAs A view (after state commands) new)

  -- the root of the side that does not count in old reads in new as in old
  abbrev pub KeepsOtherRoot : Type 0
  KeepsOtherRoot = sector (view new.disk).reads (root_at (other_of old.side)) ≡ sector (view old.disk).reads (root_at (other_of old.side))

  -- the calls that keep these commands: a record of them, then those of the checkpoint
  abbrev pub kept_calls : List (Asked A) → Bool → Bool → List Call
  kept_calls kept begins was_open = commit_calls_by old.layout old.side old.epoch old.journal old.ongoing kept begins was_open

  -- a checkpoint may begin after a record of these commands
  abbrev pub MayBeginAfter : List (Asked A) → Type 0
  MayBeginAfter kept = MayBegin old.layout old.epoch (following old.journal kept)

  -- the disk has had the calls that keep these commands (`kept_calls`), as `MakesCallsBeside` states
  abbrev pub KeepCalls : {T E : Type 0} → List (Asked A) → Result T E → Type 0
  KeepCalls kept result =
      MakesCallsBeside (view old.disk) (view new.disk) old.side (is_some new.ongoing) (MayBeginAfter kept) (kept_calls kept) result

  -- ---- a commit

  -- The calls of a commit: one record of the accepted ones of these commands, in both halves if a checkpoint is under way. Then
  -- the checkpoint's next rows, and after the last row the switch; or the calls that begin a checkpoint. At `Ok` the disk has
  -- had all of them, and the store is where the recorded commands leave it (`HasKept`). After an error the disk has had a
  -- prefix of them.
  pub record CommitCalls {B T E : Type 0} (commands : List (Asked B)) (result : Result T E) : Type 0 where
    pub calls : OnOk result ((view old.disk).honest → (recorded : List (Asked A))
        × AreRecorded A old.register commands new.register recorded × HasKept old new recorded
        × HasCalled (view old.disk) (view new.disk) (kept_calls recorded (is_some new.ongoing) (is_other_open view old)))
    pub some_calls :
        (view old.disk).honest → (recorded : List (Asked A)) × (begins : Bool)
        × AreRecorded A old.register commands new.register recorded × (begins ≡ true → MayBeginAfter recorded)
        × HasMade (view old.disk) (view new.disk) (kept_calls recorded begins (is_other_open view old))
    pub calls_on_any_disk : OnOk result ((recorded : List (Asked A)) × (was_open : Bool)
        × AreRecorded A old.register commands new.register recorded × HasKept old new recorded
        × HasCalled (view old.disk) (view new.disk) (kept_calls recorded (is_some new.ongoing) was_open))
    pub some_calls_on_any_disk :
        (recorded : List (Asked A)) × (begins : Bool) × (was_open : Bool)
        × AreRecorded A old.register commands new.register recorded × (begins ≡ true → MayBeginAfter recorded)
        × HasMade (view old.disk) (view new.disk) (kept_calls recorded begins was_open)
