-- What a disk keeps over its whole life.
use Rattle.std.proofs.Common.{◌≡◌, inl, inr, ℕ, Bool, true, false, List, [], ◌∷◌, ◌++◌, Ok, refl, sym, ap, subst, ◌∙◌, arith}
use Rattle.std.specs.Prelude.{◌⊎◌, Result}
use Rattle.std.proofs.lemmas.List.{append-nil}
use Rattle.base.proofs.Bools.{not_both}
use Rattle.sector_disk.specs.Disk.{View, IsImageOf, IsSound}
use Rattle.sector_disk.specs.Run.{LeavesOnly}
use Rattle.sector_disk.specs.Memory.{IsRestarted, memory_view}
use Rattle.sector_disk.specs.Inside.Past.{memory_sound}
use Rattle.sector_disk.specs.declared.memory.MemoryDisk.{MemoryDisk}
use Rattle.sector_disk.proofs.Moments.{only_image}
use Rattle.centre_core.specs.Asked.{Asked}
use Rattle.centre_core.specs.State.{IsState, State}
use Rattle.centre_core.specs.History.{after}
use Rattle.centre_core.specs.Histories.{IsHistory}
use Rattle.centre_core.proofs.InTurnLaws.{after-append, history-append, history-rest}
use Rattle.checkpoint.specs.OnSide.{InEach}
use Rattle.recovery.specs.Opens.{Opening, opening, opens}
use Rattle.recovery.specs.OpensTo.{OpensTo}
use Rattle.recovery.specs.Outcomes.{OpensToEither}
use Rattle.recovery.proofs.Lasting.{none_lost_made_on_disk, none_lost_on_disk}
use Rattle.recovery.proofs.Ranged.{opens_ranged}
use Rattle.recovery.proofs.Stored.{stored_opens}
use Rattle.recovery.specs.declared.fault.StoreFault.{StoreFault}
use Rattle.recovery.specs.Lives.{Closed, Answered, Event, IsCall, HasAccepted, HasOpened, LastsInStore, ComesBack, IsStoredIn, StoreView, Lasts}
use Rattle.recovery.specs.Lives.{LosesNoMessage, IsLife, Open, Phase, Unanswered, answers, begins, stopped, disk_of, fails, closes, goes_on}
use Rattle.recovery.specs.Lives.{opens_not, opens_to, stops, stops_in, nothing}

either : (b : Bool) → (b ≡ true) ⊎ (b ≡ false)
either true = inl refl
either false = inr refl

module _ {A : Type 0} (base : State) (events : List (Event A)) where
  -- ---- what is kept of one event more

  with_nothing : (image : List (List ℕ)) → Lasts A base events image → Lasts A base (Answered [] ∷ events) image
  with_nothing image is = record { state = is.state; kept = is.kept; are = (is.kept, is.are, sym (append-nil is.kept)); history = is.history; reopens = is.reopens }

  without : (cs : List (Asked A)) (image : List (List ℕ)) → Lasts A base events image → Lasts A base (Unanswered cs ∷ events) image
  without cs image is = record { state = is.state; kept = is.kept; are = inl is.are; history = is.history; reopens = is.reopens }

  module _ {D : Type 0} (old new : StoreView A D) (cs : List (Asked A)) (holds : LastsInStore A base events old) (history : IsHistory old.register cs)
      (made : new.register ≡ after old.register cs) where
    more_history : IsHistory base (holds.kept ++ cs)
    more_history = history-append base holds.kept cs holds.history (subst (λ (s : State). IsHistory s cs) holds.made history)

    more_made : new.register ≡ after base (holds.kept ++ cs)
    more_made = made ∙ ap (λ (s : State). after s cs) holds.made ∙ sym (after-append base holds.kept cs)

    answered : LastsInStore A base (Answered cs ∷ events) new
    answered = record { state = holds.state; kept = holds.kept ++ cs; are = (holds.kept, holds.are, refl); history = more_history; made = more_made }

    unanswered : LastsInStore A base (Unanswered cs ∷ events) new
    unanswered = record { state = holds.state; kept = holds.kept ++ cs; are = inr (holds.kept, holds.are, refl); history = more_history; made = more_made }

-- an image that opens to the store's register
image_opens : {A D : Type 0} (base : State) (events : List (Event A)) (store : StoreView A D) (image : List (List ℕ)) →
    LastsInStore A base events store → OpensTo A store.register image → Lasts A base events image
image_opens {A} base events store image lasts opens =
    record {
      state = lasts.state;
      kept = lasts.kept;
      are = lasts.are;
      history = lasts.history;
      reopens =
          subst (λ (s : State). OpensTo A s image) lasts.made opens;
    }

ok_is : (x y : Opening) → ◌≡◌ {A = Result Opening StoreFault} (Ok x) (Ok y) → x ≡ y
ok_is x y e = cc

module _ {D : Type 0} (view : D → View) (sound : (disk : D) → (view disk).honest → IsSound (view disk)) where
  -- the images of now are of those since
  since_now : (old new : D) (P : List (List ℕ) → Type 0) → (view new).honest → LeavesOnly (view old) (view new) P → InEach (view new) P
  since_now old new P honest leaves image is = leaves.each image ((sound new honest).counts_now (view old).moment image leaves.later is)

  -- the images since now are those of now
  now_alone : (disk : D) (P : List (List ℕ) → Type 0) → (view disk).honest → InEach (view disk) P → (image : List (List ℕ)) → (view disk).since (view disk).moment image → P image
  now_alone disk P honest each image left = each image ((sound disk honest).only_now image left)

module _ {A D : Type 0} (view : D → View) (sound : (disk : D) → (view disk).honest → IsSound (view disk)) (base : State) where
  -- what holds of a phase in a life
  record Here (events : List (Event A)) (phase : Phase A D) : Type 0 where
    honest : (view (disk_of phase)).honest
    each : InEach (view (disk_of phase)) (Lasts A base events)

  -- and of a store
  abbrev Sound : List (Event A) → Phase A D → Type 0
  Sound events (Closed disk) = Unit {0}
  Sound events (Open store) = store.broken ≡ false → IsStoredIn A view store × LastsInStore A base events store

  record Invariant (events : List (Event A)) (phase : Phase A D) : Type 0 where
    here : Here events phase
    store : Sound events phase

  -- what a stop within a call leaves
  abbrev Within : List (Event A) → D → D → Type 0
  Within events old new = (image : List (List ℕ)) → (view new).since (view old).moment image → Lasts A base events image

  -- ---- a call of a store

  module _ (events : List (Event A)) (old new : StoreView A D) (cs : List (Asked A)) (is : Invariant events (Open old)) (done : HasAccepted A view old new cs) where
    -- a broken store does nothing
    nothing_within : old.broken ≡ true → Within (Unanswered cs ∷ events) old.disk new.disk
    nothing_within broken = subst (λ (k : StoreView A D). Within (Unanswered cs ∷ events) old.disk k.disk) (sym (done.broken broken))
        (now_alone view sound old.disk (Lasts A base (Unanswered cs ∷ events)) is.here.honest
        (λ image here. without base events cs image (is.here.each image here)))

    nothing_after : old.broken ≡ true → InEach (view new.disk) (Lasts A base (Unanswered cs ∷ events))
    nothing_after broken = subst (λ (k : StoreView A D). InEach (view k.disk) (Lasts A base (Unanswered cs ∷ events))) (sym (done.broken broken))
        (λ image here. without base events cs image (is.here.each image here))

    module _ (whole : old.broken ≡ false) where
      stored : IsStoredIn A view old
      stored = (is.store whole).0

      holds : LastsInStore A base events old
      holds = (is.store whole).1

      leaves : LeavesOnly (view old.disk) (view new.disk) (OpensToEither A old.register new.register)
      leaves = done.any_moment stored

      one_of : (image : List (List ℕ)) → OpensToEither A old.register new.register image → Lasts A base (Unanswered cs ∷ events) image
      one_of image (inl before) = without base events cs image (image_opens base events old image holds before)
      one_of image (inr later) = image_opens base (Unanswered cs ∷ events) new image (unanswered base events old new cs holds done.history done.made) later

      done_within : Within (Unanswered cs ∷ events) old.disk new.disk
      done_within image left = one_of image (leaves.each image left)

      done_after : InEach (view new.disk) (Lasts A base (Unanswered cs ∷ events))
      done_after = since_now view sound old.disk new.disk (Lasts A base (Unanswered cs ∷ events)) done.honest
          (record { later = leaves.later; each = done_within; before = λ t image le left. before_by image (leaves.before t image le left) })
        where
          before_by : {P : Type 0} (image : List (List ℕ)) → P ⊎ OpensToEither A old.register new.register image → P ⊎ Lasts A base (Unanswered cs ∷ events) image
          before_by image (inl was) = inl was
          before_by image (inr now) = inr (one_of image now)

    call_within : Within (Unanswered cs ∷ events) old.disk new.disk
    call_within = elim (either old.broken) [ inl broken ↦ nothing_within broken | inr whole ↦ done_within whole ]

    call_after : InEach (view new.disk) (Lasts A base (Unanswered cs ∷ events))
    call_after = elim (either old.broken) [ inl broken ↦ nothing_after broken | inr whole ↦ done_after whole ]

    -- a store that is not broken was not so before
    was_whole : new.broken ≡ false → old.broken ≡ false
    was_whole now = elim (either old.broken) [ inl broken ↦ absurd (not_both old.broken broken (sym (ap (λ (k : StoreView A D). k.broken) (done.broken broken)) ∙ now)) | inr whole ↦ whole ]

    failed : Invariant (Unanswered cs ∷ events) (Open new)
    failed = record {
      here = record { honest = done.honest; each = call_after };
      store = λ now. let whole = was_whole now in (done.kept now (stored whole), unanswered base events old new cs (holds whole) done.history done.made);
    }

    acknowledged : new.broken ≡ false → Invariant (Answered cs ∷ events) (Open new)
    acknowledged now =
        let whole = was_whole now in
        let kept = done.kept now (stored whole) in
        let held = answered base events old new cs (holds whole) done.history done.made in
        record {
          here = record {
            honest = done.honest;
            each = λ image here. image_opens base (Answered cs ∷ events) new image held (stored_opens A new.layout new.side new.epoch new.journal new.register (view new.disk) kept.stored image here);
          };
          store = λ _. (kept, held);
        }

  -- ---- an opening

  module _ (events : List (Event A)) (old : D) (is : Invariant events (Closed old)) where
    left_within : (new : D) → LeavesOnly (view old) (view new) (IsImageOf (view old)) → Within (Unanswered [] ∷ events) old new
    left_within new leaves image left = without base events [] image (is.here.each image (leaves.each image left))

    left_after : (new : D) → (view new).honest → LeavesOnly (view old) (view new) (IsImageOf (view old)) → InEach (view new) (Lasts A base (Answered [] ∷ events))
    left_after new honest leaves image here = with_nothing base events image (is.here.each image (since_now view sound old new (IsImageOf (view old)) honest leaves image here))

    opened_holds : (new : StoreView A D) → HasOpened A view old new → LastsInStore A base (Answered [] ∷ events) new
    opened_holds new has =
        let lasts = is.here.each (view old).reads (sound old is.here.honest).reads_left in
        let same = ok_is (lasts.reopens.opening) (opening new.layout new.side new.epoch new.journal.next new.register) (sym lasts.reopens.opens ∙ has.opened) in
        record {
          state = lasts.state;
          kept = lasts.kept;
          are = (lasts.kept, lasts.are, sym (append-nil lasts.kept));
          history = lasts.history;
          made = sym (ap (λ (o : Opening). o.state) same) ∙ lasts.reopens.same;
        }

  -- ---- any call

  -- nothing is done
  idle : (events : List (Event A)) (phase : Phase A D) → Here events phase → Here (Answered [] ∷ events) phase
  idle events phase is = record { honest = is.honest; each = λ image here. with_nothing base events image (is.each image here) }

  idle_within : (events : List (Event A)) (phase : Phase A D) → Here events phase → Within (Unanswered [] ∷ events) (disk_of phase) (disk_of phase)
  idle_within events phase is = now_alone view sound (disk_of phase) (Lasts A base (Unanswered [] ∷ events)) is.honest (λ image here. without base events [] image (is.each image here))

  idle_store : (events : List (Event A)) (phase : Phase A D) → Sound events phase → Sound (Answered [] ∷ events) phase
  idle_store events (Closed disk) is = tt
  idle_store events (Open store) is = λ whole.
      let now = is whole in
      (now.0, record { state = now.1.state; kept = now.1.kept; are = (now.1.kept, now.1.are, sym (append-nil now.1.kept)); history = now.1.history; made = now.1.made })

  after_call : (events : List (Event A)) (old new : Phase A D) (event : Event A) → Invariant events old → IsCall A view old event new → Invariant (event ∷ events) new
  after_call events old new event is (nothing phase) = record { here = idle events phase is.here; store = idle_store events phase is.store }
  after_call events old new event is (opens_to disk store has) =
      record { here = record { honest = has.honest; each = left_after events disk is store.disk has.honest has.left }; store = λ _. (has.kept, opened_holds events disk is store has) }
  after_call events old new event is (opens_not disk then has) = record { here = record { honest = has.honest; each = left_after events disk is then has.honest has.left }; store = tt }
  after_call events old new event is (closes store) = record { here = record { honest = is.here.honest; each = (idle events (Open store) is.here).each }; store = tt }
  after_call events old new event is (answers was now cs done whole) = acknowledged events was now cs is done whole
  after_call events old new event is (fails was now cs done) = failed events was now cs is done

  within_call : (events : List (Event A)) (old new : Phase A D) (event : Event A) → Invariant events old → IsCall A view old event new → Within (stopped event ∷ events) (disk_of old) (disk_of new)
  within_call events old new event is (nothing phase) = idle_within events phase is.here
  within_call events old new event is (opens_to disk store has) = left_within events disk is store.disk has.left
  within_call events old new event is (opens_not disk then has) = left_within events disk is then has.left
  within_call events old new event is (closes store) = idle_within events (Open store) is.here
  within_call events old new event is (answers was now cs done whole) = call_within events was now cs is done
  within_call events old new event is (fails was now cs done) = call_within events was now cs is done

  -- ---- the life

  back : (events : List (Event A)) (image : List (List ℕ)) (disk : D) → ComesBack A view image disk → Lasts A base events image → Invariant events (Closed disk)
  back events image disk is lasts = record {
    here = record { honest = is.honest; each = λ other here. subst (Lasts A base events) (sym (only_image (view disk) is.durable other here ∙ is.reads)) lasts };
    store = tt;
  }

  -- the base is a state
  begun : (disk : D) → (view disk).honest → InEach (view disk) (OpensTo A base) → IsState base
  begun disk honest each =
      let left = (sound disk honest).reads_left in
      let now = each (view disk).reads left in
      subst IsState now.same (opens_ranged A now.opening (view disk).reads (record { each = left.whole }) now.opens).state

  lived : (events : List (Event A)) (phase : Phase A D) → IsLife A view base events phase → Invariant events phase
  lived events phase (begins disk honest each) =
      record {
        here = record {
          honest = honest;
          each = λ image here.
              record { state = begun disk honest each; kept = []; are = refl; history = tt; reopens = each image here };
        };
        store = tt;
      }
  lived events phase (goes_on before old new event life goes) = after_call before old new event (lived before old life) goes
  lived events phase (stops before old new event image disk life goes left is) = back (stopped event ∷ before) image disk is (within_call before old new event (lived before old life) goes image left)
  lived events phase (stops_in before old new cs image disk life done whole known is) =
      back (Unanswered cs ∷ before) image disk is (one_of before old new cs (lived before (Open old) life) done whole image known)

  pub life_lasts : (events : List (Event A)) (phase : Phase A D) → IsLife A view base events phase → InEach (view (disk_of phase)) (Lasts A base events)
  life_lasts events phase life = (lived events phase life).here.each

  pub life_holds : (events : List (Event A)) (store : StoreView A D) → IsLife A view base events (Open store) → store.broken ≡ false → IsStoredIn A view store × LastsInStore A base events store
  life_holds events store life whole = (lived events (Open store) life).store whole

-- ---- the last place is honest

honest_then : {A D : Type 0} (view : D → View) (old new : Phase A D) (event : Event A) → (view (disk_of old)).honest → IsCall A view old event new → (view (disk_of new)).honest
honest_then view old new event honest (nothing phase) = honest
honest_then view old new event honest (opens_to disk store has) = has.honest
honest_then view old new event honest (opens_not disk then has) = has.honest
honest_then view old new event honest (closes store) = honest
honest_then view old new event honest (answers was now cs done whole) = done.honest
honest_then view old new event honest (fails was now cs done) = done.honest

pub life_honest : {A D : Type 0} (view : D → View) (base : State) (events : List (Event A)) (phase : Phase A D) → IsLife A view base events phase → (view (disk_of phase)).honest
life_honest view base events phase (begins disk honest each) = honest
life_honest view base events phase (goes_on before old new event life call) = honest_then view old new event (life_honest view base before old life) call
life_honest view base events phase (stops before old new event image disk life call left is) = is.honest
life_honest view base events phase (stops_in before old new accepted image disk life done whole known is) = is.honest

-- ---- a disk with nothing pending

pub begins_durable : {A D : Type 0} (view : D → View) (opening : Opening) (disk : D) → (view disk).honest → ((k : ℕ) → (view disk).pending k ≡ false)
    → opens A (view disk).reads ≡ Ok opening → IsLife A view opening.state [] (Closed disk)
begins_durable {A} view opening disk honest durable is =
    begins disk honest (λ image here. record { opening = opening; opens = ap (λ (l : List (List ℕ)). opens A l) (only_image (view disk) durable image here) ∙ is; same = refl })

-- ---- messages

pub none_lost : {A : Type 0} (base : State) (events : List (Event A)) (image : List (List ℕ)) (is : Lasts A base events image) → LosesNoMessage A base is.kept image
none_lost {A} base events image is = record {
  from_base = λ m message waits. none_lost_on_disk base is.state is.kept m image message waits is.reopens;
  from_commands = λ bs c cs m same makes.
      let history : IsHistory base (bs ++ c ∷ cs) = subst (λ (l : List (Asked A)). IsHistory base l) same is.history in
      none_lost_made_on_disk base is.state bs c cs m image (history-rest base bs (c ∷ cs) history).0 makes
      (subst (λ (l : List (Asked A)). OpensTo A (after base l) image) same is.reopens);
}

-- ---- a disk in memory that stops

pub crashed : {A M : Type 0} (base : State) (events : List (Event A)) (old new : MemoryDisk M) → ((memory_view old).honest → IsImageOf (memory_view old) (memory_view new).reads) → IsRestarted old new
    → IsLife A memory_view base events (Closed old) → IsLife A memory_view base (Unanswered [] ∷ events) (Closed new)
crashed base events old new image restarted life =
    let honest = life_honest memory_view base events (Closed old) life in
    stops events (Closed old) (Closed old) (Answered []) (memory_view new).reads new life (nothing (Closed old))
    ((memory_sound old honest).counts_now (memory_view old).moment (memory_view new).reads (omega arith) (image honest))
    (record { honest = restarted.honest honest; reads = refl; durable = restarted.durable })
