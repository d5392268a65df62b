-- Where a commit leaves a store, and the calls it has made, seen from before what ran ahead of it.
use Rattle.std.proofs.Common.{◌≡◌, ℕ, ◌+◌, ◌<◌, ◌≤◌, Bool, true, false, List, [], ◌∷◌, ◌++◌, Option, None, Some, Result, Ok, Err, OnOk, refl, sym, ap, subst, ◌∙◌, arith}
use Rattle.std.specs.Prelude.{IfSome, if◌then◌else◌}
use Rattle.std.specs.Borrow.{Bor}
use mathlib.Core.Bool.{false≢true}
use Rattle.std.proofs.lemmas.Bool.Decides.{nat_tests}
use Rattle.base.proofs.Options.{if_some}
use Rattle.centre_core.specs.Asked.{Asked}
use Rattle.centre_core.specs.State.{State}
use Rattle.centre_core.specs.History.{after}
use Rattle.centre_core.specs.Histories.{IsHistory}
use Rattle.sector_disk.specs.Disk.{View}
use Rattle.sector_disk.specs.Run.{HasMade, LeavesOnly}
use Rattle.image_rows.specs.Numbers.{Epoch}
use Rattle.gated_journal.specs.declared.place.Place.{Place}
use Rattle.gated_journal.specs.Record.{data_size}
use Rattle.gated_journal.specs.Settled.{following, room_of, text_at}
use Rattle.checkpoint.specs.declared.layout.Layout.{Layout}
use Rattle.checkpoint.specs.declared.side.Side.{Side}
use Rattle.checkpoint.specs.Layout.{other_of}
use Rattle.recovery.specs.declared.ongoing.Ongoing.{Ongoing}
use Rattle.recovery.specs.Calls.{commit_calls_by, fits_in}
use Rattle.recovery.specs.AfterCommit.{GoesBy, GoesOn, HasBegun, HasEnded, HasWrittenRows, HasKept, HasRoom, Stays, ongoing_after, with_record, with_room}
use Rattle.recovery.specs.Lives.{StoreView}
use Rattle.recovery.specs.Serving.{MayBeginBy}
use Rattle.recovery.specs.Stored.{fresh_place}
use Rattle.recovery.specs.UnderWay.{BelongsTo, IsKept, MayBegin, ends_with}
use Rattle.recovery.specs.Outcomes.{OpensToEither, asked}
use Rattle.recovery.specs.OpensTo.{OpensTo}
use Rattle.recovery.proofs.Called.{made_both, made_in_second}
use Rattle.recovery.proofs.Stored.{then_either}
use Rattle.sector_disk.specs.declared.record.Call.{Call}

-- ---- the register counts more

module _ {A : Type 0} (layout : Layout) (side : Side) (epoch : Epoch) (current : Place) (count now : ℕ) (ongoing : Option (Ongoing A))
    (belongs : IfSome ongoing (λ it. BelongsTo layout side epoch current count it)) where
  -- a checkpoint under way belongs to a register that has accepted more
  pub belongs_later : count ≤ now → IfSome ongoing (λ it. BelongsTo layout side epoch current now it)
  belongs_later more =
      if_some ongoing (λ it is. record {
        first = is.first;
        end = is.end;
        up = is.up;
        form = is.form;
        ahead = is.ahead;
        counts = let few = is.counts in omega (arith, few, more);
        epoch_is = is.epoch_is;
        progress = is.progress;
        limits = is.limits;
        more = is.more;
      }) belongs

  -- its journal has room in what is counted
  pub counts_ongoing : (some : ℕ) → count + some ≤ now → IfSome ongoing (λ it. it.journal.count + some ≤ now)
  counts_ongoing some all = if_some ongoing (λ it is. let few = is.counts in omega (arith, few, all)) belongs

-- ---- a store that differs in its register alone

module _ {A D : Type 0} (was old new : StoreView A D) (layout : was.layout ≡ old.layout) (side : was.side ≡ old.side) (epoch : was.epoch ≡ old.epoch) (journal : was.journal ≡ old.journal) where
  stays_from : Stays was new → Stays old new
  stays_from stays = record { side = stays.side ∙ side; epoch = stays.epoch ∙ epoch; journal = stays.journal ∙ journal }

  begun_from : (it : Ongoing A) → HasBegun was new it → HasBegun old new it
  begun_from it begun = record {
    register = begun.register;
    written = begun.written;
    journal = begun.journal ∙ ap (λ (l : Layout). fresh_place l (other_of was.side) new.register.count) layout ∙ ap (λ (s : Side). fresh_place old.layout (other_of s) new.register.count) side;
    may = rw (layout, epoch, journal) at begun.may;
  }

  ended_from : (it : Ongoing A) → HasEnded was new it → HasEnded old new it
  ended_from it ended = record {
    side = ended.side ∙ ap other_of side;
    epoch = ended.epoch ∙ ap (λ (e : Epoch). e + 1) epoch;
    journal = ended.journal;
    none = ended.none;
  }

  goes_by : (it : Ongoing A) (ends : Bool) → GoesBy was new it ends → GoesBy old new it ends
  goes_by it false goes = (stays_from goes.0, (goes.1.0, goes.1.1, subst (λ (e : Epoch). HasWrittenRows e it goes.1.0) epoch goes.1.2))
  goes_by it true goes = ended_from it goes

  pub goes_from : (ongoing : Option (Ongoing A)) → GoesOn was new ongoing → GoesOn old new ongoing
  goes_from None goes = (stays_from goes.0, if_some new.ongoing begun_from goes.1)
  goes_from (Some it) goes = subst (λ (e : Epoch). GoesBy old new it (ends_with (e + 1) it.register it.progress.written)) epoch
      (goes_by it (ends_with (was.epoch + 1) it.register it.progress.written) goes)

-- what is kept then is kept before: the register, the disk and whether it is broken count for nothing
pub kept_from : {A D : Type 0} (was old new : StoreView A D) (cs : List (Asked A)) → HasKept was new cs → was.layout ≡ old.layout →
    was.side ≡ old.side → was.epoch ≡ old.epoch → was.journal ≡ old.journal → was.ongoing ≡ old.ongoing → HasKept old new cs
kept_from was old new [] kept layout side epoch journal ongoing = (stays_from was old new layout side epoch journal kept.0, kept.1 ∙ ongoing)
kept_from {A} was old new (c ∷ cs) kept layout side epoch journal ongoing =
    subst (λ (it : Option (Ongoing A)). GoesOn (with_record old (c ∷ cs)) new (ongoing_after it (c ∷ cs))) ongoing
    (goes_from (with_record was (c ∷ cs)) (with_record old (c ∷ cs)) new layout side epoch (ap (λ (place : Place). following place (c ∷ cs)) journal) (ongoing_after was.ongoing (c ∷ cs)) kept)

-- what a call has kept does not tell whether the store is broken
module _ {A D : Type 0} (new : StoreView A D) (broken : Bool) where
  abbrev marked : StoreView A D
  marked = record new { broken = broken }

  stays_so : (old : StoreView A D) → Stays old new → Stays old marked
  stays_so old stays = record { side = stays.side; epoch = stays.epoch; journal = stays.journal }

  goes_so_by : (old : StoreView A D) (it : Ongoing A) (ends : Bool) → GoesBy old new it ends → GoesBy old marked it ends
  goes_so_by old it false goes = (stays_so old goes.0, goes.1)
  goes_so_by old it true goes = record { side = goes.side; epoch = goes.epoch; journal = goes.journal; none = goes.none }

  goes_so : (old : StoreView A D) (ongoing : Option (Ongoing A)) → GoesOn old new ongoing → GoesOn old marked ongoing
  goes_so old None goes = (stays_so old goes.0, if_some new.ongoing (λ it begun. record { register = begun.register; written = begun.written; journal = begun.journal; may = begun.may }) goes.1)
  goes_so old (Some it) goes = goes_so_by old it (ends_with (old.epoch + 1) it.register it.progress.written) goes

  pub kept_so : (old : StoreView A D) (cs : List (Asked A)) → HasKept old new cs → HasKept old marked cs
  kept_so old [] kept = (stays_so old kept.0, kept.1)
  kept_so old (c ∷ cs) kept = goes_so (with_record old (c ∷ cs)) (ongoing_after old.ongoing (c ∷ cs)) kept

-- of no commands nothing is kept
pub none_kept : {A D : Type 0} (store : StoreView A D) → HasKept store store []
none_kept store = (record { side = refl; epoch = refl; journal = refl }, refl)

-- ---- a batch: s before it, t after it, and u what the register has in the end

module _ {B : Type 0} (s t : State) (given_are items : List (Bor (Asked B))) (are : given_are ≡ items) where
  pub batch_history : IsHistory s (asked items) → IsHistory s (asked given_are)
  batch_history is = subst (λ (l : List (Bor (Asked B))). IsHistory s (asked l)) (sym are) is

  pub batch_made : t ≡ after s (asked items) → t ≡ after s (asked given_are)
  batch_made is = is ∙ ap (λ (l : List (Bor (Asked B))). after s (asked l)) (sym are)

pub batch_leaves : (A : Type 0) (s t u : State) → u ≡ t → (old new : View) → LeavesOnly old new (OpensToEither A s t) → LeavesOnly old new (OpensToEither A s u)
batch_leaves A s t u same old new leaves = subst (λ (x : State). LeavesOnly old new (OpensToEither A s x)) (sym same) leaves

pub batch_kept : (A : Type 0) (layout : Layout) (side : Side) (epoch : Epoch) (journal : Place) (ongoing : Option (Ongoing A)) (t u : State)
    (disk : View) → u ≡ t → IsKept A layout side epoch journal ongoing t disk → IsKept A layout side epoch journal ongoing u disk
batch_kept A layout side epoch journal ongoing t u disk same kept = subst (λ (x : State). IsKept A layout side epoch journal ongoing x disk) (sym same) kept

-- ---- after a checkpoint that made room

pub layout_then : {A D : Type 0} (fits : Bool) (store : StoreView A D) → (with_room fits store).layout ≡ store.layout
layout_then true store = refl
layout_then false store = refl

pub by_fits : (fits was_open also : Bool) → (fits ≡ true → also ≡ was_open) → (if fits then was_open else also) ≡ also
by_fits true was_open also same = sym (same refl)
by_fits false was_open also same = refl

pub it_fits : {B : Type 0} (A : Type 0) (place : Place) (cs : List (Bor (Asked B))) → fits_in A place cs ≡ true → data_size (text_at A place cs) ≤ room_of place
it_fits A place cs is = grind (arith, nat_tests)

pub no_room : {B : Type 0} (A : Type 0) (place : Place) (cs : List (Bor (Asked B))) → fits_in A place cs ≡ false → room_of place < data_size (text_at A place cs)
no_room A place cs is = grind (arith, nat_tests)

-- what a commit does after the room, by what the desk was before
module _ {A D : Type 0} (was old : StoreView A D) (fits : Bool) (layout : was.layout ≡ old.layout) (room : HasRoom old was fits) (cs : List (Asked A)) where
  abbrev now : StoreView A D
  now = with_room fits old

  layout_is : was.layout ≡ now.layout
  layout_is = layout ∙ sym (layout_then fits old)

  pub room_kept : (new : StoreView A D) → HasKept was new cs → HasKept now new cs
  room_kept new kept = kept_from was now new cs kept layout_is (room.0.side) (room.0.epoch) (room.0.journal) room.1

  pub room_may : (begins : Bool) → (begins ≡ true → MayBegin was.layout was.epoch (following was.journal cs)) → begins ≡ true → MayBegin now.layout now.epoch (following now.journal cs)
  room_may begins may is =
      let at_layout : MayBegin now.layout was.epoch (following was.journal cs) = subst (λ (l : Layout). MayBegin l was.epoch (following was.journal cs)) layout_is (may is) in
      let at_epoch : MayBegin now.layout now.epoch (following was.journal cs) = subst (λ (e : Epoch). MayBegin now.layout e (following was.journal cs)) (room.0.epoch) at_layout in
      subst (λ (place : Place). MayBegin now.layout now.epoch (following place cs)) (room.0.journal) at_epoch

  pub room_calls_are : (begins also : Bool) → commit_calls_by was.layout was.side was.epoch was.journal was.ongoing cs begins also ≡ commit_calls_by
      now.layout now.side now.epoch now.journal now.ongoing cs begins also
  room_calls_are begins also =
      ap (λ (l : Layout). commit_calls_by l was.side was.epoch was.journal was.ongoing cs begins also) layout_is
      ∙ ap (λ (s : Side). commit_calls_by now.layout s was.epoch was.journal was.ongoing cs begins also) (room.0.side)
      ∙ ap (λ (e : Epoch). commit_calls_by now.layout now.side e was.journal was.ongoing cs begins also) (room.0.epoch)
      ∙ ap (λ (place : Place). commit_calls_by now.layout now.side now.epoch place was.ongoing cs begins also) (room.0.journal)
      ∙ ap (λ (it : Option (Ongoing A)). commit_calls_by now.layout now.side now.epoch now.journal it cs begins also) room.1

  -- on an honest disk: where the record fits, the root reads as before
  pub room_calls_read : (begins was_open also : Bool) → (fits ≡ true → also ≡ was_open) →
      commit_calls_by was.layout was.side was.epoch was.journal was.ongoing cs begins also ≡ commit_calls_by now.layout now.side now.epoch now.journal
      now.ongoing cs begins (if fits then was_open else also)
  room_calls_read begins was_open also same = room_calls_are begins also ∙ ap (commit_calls_by now.layout now.side now.epoch now.journal now.ongoing cs begins) (sym (by_fits fits was_open also same))

-- where nothing is kept none begins
pub begins_none : {A D : Type 0} (old : StoreView A D) (fits : Bool) (cs : List (Asked A)) → MayBeginBy old fits cs false
begins_none old fits cs is = absurd (false≢true is)

pub made_then : (old mid new : View) (first second third : List Call) → mid.calls ≡ old.calls ++ first → second ≡ third → new.calls ≡ mid.calls ++ second → new.calls ≡ old.calls ++ (first ++ third)
made_then old mid new first second third were same is = made_both old mid new first third were (is ∙ ap (λ (l : List Call). mid.calls ++ l) same)

pub some_then : (old mid new : View) (first second third : List Call) → mid.calls ≡ old.calls ++ first → second ≡ third → HasMade mid new second → HasMade old new (first ++ third)
some_then old mid new first second third were same some = made_in_second old mid new first third were (subst (HasMade mid new) same some)

-- m is the state s as the checkpoint left it
pub desk_leaves : (A : Type 0) (s m t u : State) → m ≡ s → u ≡ t → (old mid new : View) → LeavesOnly old mid (OpensTo A s) →
    LeavesOnly mid new (OpensToEither A m t) → LeavesOnly old new (OpensToEither A s u)
desk_leaves A s m t u same last old mid new first second =
    then_either A s u old mid new first (subst (λ (x : State). LeavesOnly mid new (OpensToEither A x u)) same (batch_leaves A m t u last mid new second))
