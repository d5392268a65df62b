-- A commit: its record, and after it what goes on beside.
use Rattle.std.proofs.Common.{◌≡◌, inr, ◌+◌, ◌≤◌, Bool, true, false, List, [], ◌∷◌, ◌++◌, length, None, Some, Option, IfSome, refl, sym, ap, subst, ◌∙◌, arith}
use Rattle.std.specs.Borrow.{Bor}
use Rattle.sector_disk.specs.Disk.{View}
use Rattle.sector_disk.specs.Run.{HasMade, LeavesOnly}
use Rattle.sector_disk.specs.declared.record.Call.{Call}
use Rattle.sector_disk.proofs.Made.{made_of_more}
use Rattle.sector_disk.proofs.Moments.{run_on}
use Rattle.centre_core.specs.Asked.{Asked}
use Rattle.centre_core.specs.State.{State}
use Rattle.image_rows.specs.Numbers.{Epoch}
use Rattle.gated_journal.specs.declared.place.Place.{Place}
use Rattle.gated_journal.specs.Record.{given}
use Rattle.gated_journal.specs.Settled.{following}
use Rattle.checkpoint.specs.declared.layout.Layout.{Layout}
use Rattle.checkpoint.specs.declared.side.Side.{Side}
use Rattle.checkpoint.specs.Layout.{other_of}
use Rattle.recovery.specs.declared.ongoing.Ongoing.{Ongoing}
use Rattle.recovery.specs.Calls.{ongoing_calls, commit_calls_by, record_calls}
use Rattle.recovery.specs.AfterCommit.{GoesBy, GoesOn, HasBegun, HasEnded, HasWrittenRows, HasKept, Stays, ongoing_after, with_record}
use Rattle.recovery.specs.Lives.{StoreView}
use Rattle.recovery.specs.Outcomes.{OpensToEither}
use Rattle.recovery.specs.OpensTo.{OpensTo}
use Rattle.recovery.specs.UnderWay.{ends_with}
use Rattle.recovery.proofs.Called.{made_both, made_in_second}

-- ---- where it leaves the store

some_weaker : {T : Type 0} (P Q : T → Type 0) (o : Option T) → ((t : T) → P t → Q t) → IfSome o P → IfSome o Q
some_weaker P Q None then is = tt
some_weaker P Q (Some t) then is = then t is

module _ {A D : Type 0} (was mid new : StoreView A D) (layout : mid.layout ≡ was.layout) (side : mid.side ≡ was.side) (epoch : mid.epoch ≡ was.epoch) (journal : mid.journal ≡ was.journal) where
  stays_as : Stays mid new → Stays was new
  stays_as is = record { side = is.side ∙ side; epoch = is.epoch ∙ epoch; journal = is.journal ∙ journal }

  begun_as : (it : Ongoing A) → HasBegun mid new it → HasBegun was new it
  begun_as it is = record {
    register = is.register;
    written = is.written;
    journal = rw (← layout, ← side) is.journal;
    may = rw (← layout, ← epoch, ← journal) is.may;
  }

  ended_as : (it : Ongoing A) → HasEnded mid new it → HasEnded was new it
  ended_as it is = record { side = is.side ∙ ap other_of side; epoch = is.epoch ∙ ap (λ (e : Epoch). e + 1) epoch; journal = is.journal; none = is.none }

  by_as : (it : Ongoing A) (ends : Bool) → GoesBy mid new it ends → GoesBy was new it ends
  by_as it false is = (stays_as is.0, (is.1.0, is.1.1, subst (λ (e : Epoch). HasWrittenRows e it is.1.0) epoch is.1.2))
  by_as it true is = ended_as it is

  pub goes_as : (o : Option (Ongoing A)) → GoesOn mid new o → GoesOn was new o
  goes_as None is = (stays_as is.0, some_weaker (HasBegun mid new) (HasBegun was new) new.ongoing begun_as is.1)
  goes_as (Some it) is = by_as it (ends_with (was.epoch + 1) it.register it.progress.written) (subst (λ (e : Epoch). GoesBy mid new it (ends_with (e + 1) it.register it.progress.written)) epoch is)

-- after a record
pub kept_by : {A B D : Type 0} (old mid new : StoreView A D) (items : List (Bor (Asked B))) → 1 ≤ length items → mid.layout ≡ old.layout →
    mid.side ≡ old.side → mid.epoch ≡ old.epoch → mid.journal ≡ following old.journal (given A items)
    → mid.ongoing ≡ ongoing_after old.ongoing (given A items) → GoesOn mid new mid.ongoing → HasKept old new (given A items)
kept_by old mid new [] some layout side epoch journal ongoing goes = absurd (omega (arith, some))
kept_by {A} old mid new (x ∷ xs) some layout side epoch journal ongoing goes =
    goes_as (with_record old (given A (x ∷ xs))) mid new layout side epoch journal (ongoing_after old.ongoing (given A (x ∷ xs))) (subst (λ o. GoesOn mid new o) ongoing goes)

-- ---- its calls

-- what goes on beside does not hang on the other half's journal
ongoing_as : {A : Type 0} (layout : Layout) (side : Side) (epoch : Epoch) (o : Option (Ongoing A)) (cs : List (Asked A)) (begins was_open : Bool) →
    ongoing_calls layout side epoch (ongoing_after o cs) begins was_open ≡ ongoing_calls layout side epoch o begins was_open
ongoing_as layout side epoch None cs begins was_open = refl
ongoing_as layout side epoch (Some it) cs begins was_open = refl

module _ {A B : Type 0} (layout : Layout) (side : Side) (epoch : Epoch) (place : Place) (ongoing : Option (Ongoing A)) (items : List (Bor (Asked B)))
    (some : 1 ≤ length items) (begins was_open : Bool) where
  calls_are : commit_calls_by layout side epoch place ongoing (given A items) begins was_open ≡ record_calls place ongoing (given A items) ++ ongoing_calls layout side epoch ongoing begins was_open
  calls_are = there items some
    where
      there : (l : List (Bor (Asked B))) → 1 ≤ length l → commit_calls_by layout side epoch place ongoing (given A l) begins was_open ≡ record_calls
          place ongoing (given A l) ++ ongoing_calls layout side epoch ongoing begins was_open
      there [] some = absurd (omega (arith, some))
      there (x ∷ xs) some = refl

  -- the record was written, and nothing after it
  pub made_record : (old new : View) → HasMade old new (record_calls place ongoing (given A items)) → HasMade old new (commit_calls_by layout side epoch place ongoing (given A items) begins was_open)
  made_record old new has = rw calls_are (made_of_more old new (record_calls place ongoing (given A items)) (ongoing_calls layout side epoch ongoing begins was_open) has)

  module _ (old mid new : View) (recorded : mid.calls ≡ old.calls ++ record_calls place ongoing (given A items)) (then : Option (Ongoing A))
      (then_is : then ≡ ongoing_after ongoing (given A items)) where
    then_as : ongoing_calls layout side epoch then begins was_open ≡ ongoing_calls layout side epoch ongoing begins was_open
    then_as = ap (λ (o : Option (Ongoing A)). ongoing_calls layout side epoch o begins was_open) then_is ∙ ongoing_as layout side epoch ongoing (given A items) begins was_open

    pub made_all : new.calls ≡ mid.calls ++ ongoing_calls layout side epoch then begins was_open →
        new.calls ≡ old.calls ++ commit_calls_by layout side epoch place ongoing (given A items) begins was_open
    made_all is = rw calls_are
        (made_both old mid new (record_calls place ongoing (given A items)) (ongoing_calls layout side epoch ongoing begins was_open) recorded
        (is ∙ ap (λ (l : List Call). mid.calls ++ l) then_as))

    pub made_some : HasMade mid new (ongoing_calls layout side epoch then begins was_open) → HasMade old new (commit_calls_by layout side epoch place ongoing (given A items) begins was_open)
    made_some has = rw calls_are (made_in_second old mid new (record_calls place ongoing (given A items)) (ongoing_calls layout side epoch ongoing begins was_open) recorded (rw then_as at has))

-- ---- what a stop leaves

-- the record, and then what leaves the register as it is
pub then_as_it_is : (A : Type 0) (s t u : State) (old mid new : View) → u ≡ t → LeavesOnly old mid (OpensToEither A s t) → LeavesOnly mid new (OpensTo A u) → LeavesOnly old new (OpensToEither A s u)
then_as_it_is A s t u old mid new same first second =
    run_on old mid new (OpensToEither A s u) (OpensTo A u) (subst (λ (x : State). LeavesOnly old mid (OpensToEither A s x)) (sym same) first) second (λ image is. inr is)
