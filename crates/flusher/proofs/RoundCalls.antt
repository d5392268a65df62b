-- Rounds in the life of a disk.
use Rattle.std.specs.declared.alloc.Global.{Global}
use Rattle.std.specs.Prelude.{◌⊎◌}
use Rattle.std.proofs.Common.{◌≡◌, ◌≤◌, inl, inr, ℕ, Bool, true, false, true≢false, List, [], ◌∷◌, ◌++◌, take, refl, ap, sym, ◌∙◌, subst, arith}
use Rattle.std.proofs.lemmas.List.{append-nil}
use Rattle.sector_disk.specs.Disk.{IsSound, View}
use Rattle.centre_core.specs.Asked.{Asked}
use Rattle.centre_core.specs.State.{State}
use Rattle.centre_core.specs.History.{after}
use Rattle.centre_core.specs.Histories.{IsHistory}
use Rattle.centre_core.specs.Batches.{taken}
use Rattle.centre_core.proofs.InTurnLaws.{after-append, history-rest}
use Rattle.centre_core.proofs.JoinedLaws.{after_taken, taken_history}
use Rattle.recovery.specs.Outcomes.{IsAfterBatch}
use Rattle.recovery.specs.Lives.{Closed, Answered, ComesBack, Event, HasAccepted, IsCall, IsLife, Open, StoreView, Unanswered, answers, fails, goes_on, nothing, stopped, stops}
use Rattle.recovery.proofs.CutShort.{call_parts}
use Rattle.flusher.specs.Batches.{KeepsImages}
use Rattle.flusher.specs.Lasting.{AreLasting, no_more, onward}
use Rattle.flusher.specs.Lives.{AreCalls, AreCutShort, HasLived, IsRoundCall, IsSomeCall, before_any, fails_under_way, in_earlier, in_last, makes_durable, no_call, one_call}
use Rattle.flusher.specs.Order.{AreInOrder}
use Rattle.flusher.specs.Rounds.{IsRound}
use Rattle.flusher.specs.Served.{IsSettled}
use Rattle.flusher.specs.Shared.{commands_among}
use Rattle.flusher.specs.View.{FlusherView}
use Rattle.flusher.proofs.Batched.{commands_among-append}
use Rattle.flusher.proofs.Between.{round_broken, round_idle}
use Rattle.flusher.proofs.ByItself.{round_longer}
use Rattle.flusher.proofs.Kept.{begun}

abbrev G : Type 0
G = Asked Global

module _ {D : Type 0} (view : D → View) (base : State) where
  -- ---- one round

  module _ (f g : FlusherView D) (r : IsRound view base f g) (was : f.store.broken ≡ false → f.store.register ≡ after base f.durable)
      (order : AreInOrder f.durable f.taker.taken) (now : IsSettled base g) where
    -- the store was broken before
    idle_call : f.store.broken ≡ true → IsSomeCall view base f g
    idle_call down =
        let same = round_idle view base f g r down in (
          Answered [],
          makes_durable [] (same.1 ∙ sym (append-nil f.durable))
              (subst (λ (s : StoreView Global D). IsCall Global view (Open f.store) (Answered []) (Open s)) (sym same.0) (nothing (Open f.store))),
        )

    module _ (up : f.store.broken ≡ false) (keeps : KeepsImages view f.store g.store) where
      has_accepted : (more : List G) → IsHistory f.store.register more → g.store.register ≡ after f.store.register more → HasAccepted Global view f.store g.store more
      has_accepted more history made = record {
        honest = keeps.honest;
        history = history;
        made = made;
        any_moment = λ stored. keeps.any_moment;
        kept = λ sound stored. keeps.kept sound;
        broken = λ down. absurd (true≢false (sym down ∙ up));
      }

      -- the same of the register as what is durable makes it
      accepted_after : (more : List G) → IsHistory (after base f.durable) more → g.store.register ≡ after (after base f.durable) more → HasAccepted Global view f.store g.store more
      accepted_after more history made =
          let at = sym (was up) in
          has_accepted more (subst (λ (s : State). IsHistory s more) at history) (subst (λ (s : State). g.store.register ≡ after s more) at made)

      -- the disk has not failed
      durable_call : g.store.broken ≡ false → IsSomeCall view base f g
      durable_call sound =
          let longer = round_longer view base f g r in
          let more = longer.0 in
          let same : g.durable ≡ f.durable ++ more = sym longer.1 in
          let history = history-rest base f.durable more (subst (IsHistory base) same now.history) in
          let made = now.made sound ∙ ap (after base) same ∙ after-append base f.durable more in
          (Answered more, makes_durable more same (answers f.store g.store more (accepted_after more history made) sound))

      more_taken : commands_among g.taker.taken ≡ commands_among f.taker.taken ++ commands_among r.popped
      more_taken = ap commands_among r.taken.taken ∙ commands_among-append f.taker.taken r.popped

      -- the disk failed in the round
      failed_by : g.store.broken ≡ true → g.durable ≡ f.durable → (g.store.register ≡ f.store.register) ⊎
          IsAfterBatch f.store.register (commands_among r.popped) g.store.register → IsSomeCall view base f g
      failed_by down same (inl q) = (
        Unanswered [],
        fails_under_way [] down same (begun view base f g (commands_among r.popped) more_taken [] 0 order same refl) (fails f.store g.store [] (has_accepted [] tt q)),
      )
      failed_by down same (inr q) =
          let batch = take q.0 (commands_among r.popped) in
          let more = taken (after base f.durable) batch in
          let made = q.1 ∙ ap (λ (s : State). after s batch) (was up) ∙ sym (after_taken (after base f.durable) batch) in (
            Unanswered more,
            fails_under_way more down same (begun view base f g (commands_among r.popped) more_taken more q.0 order same (ap (λ (l : List G). taken (after base l) batch) (sym same)))
                (fails f.store g.store more (accepted_after more (taken_history (after base f.durable) batch) made)),
          )

      sound_call : (broken : Bool) → g.store.broken ≡ broken → IsSomeCall view base f g
      sound_call true down = let b = round_broken view base f g r up down in failed_by down b.1 b.0.register
      sound_call false sound = durable_call sound

    pub round_call : (broken : Bool) → f.store.broken ≡ broken → (f.store.broken ≡ false → KeepsImages view f.store g.store) → IsSomeCall view base f g
    round_call true down keeps = idle_call down
    round_call false up keeps = sound_call up (keeps up) g.store.broken refl

  -- ---- a run

  -- rounds after these
  more_calls : (first f h : FlusherView D) (events : List (Event Global)) → AreCalls view base first events f →
      (f.store.broken ≡ false → f.store.register ≡ after base f.durable) → AreInOrder f.durable f.taker.taken → AreLasting view base f h →
      (more : List (Event Global)) × AreCalls view base first more h
  more_calls first f h events calls was order (no_more x) = (events, calls)
  more_calls first f h events calls was order (onward x g y r settled keeps since rest) =
      let c = round_call x g r was order settled x.store.broken refl keeps in
      more_calls first g y (c.0 ∷ events) (one_call events c.0 x g calls r c.1) settled.made settled.order rest

  calls_of : (first last : FlusherView D) → (first.store.broken ≡ false → first.store.register ≡ after base first.durable) →
      AreInOrder first.durable first.taker.taken → AreLasting view base first last → (events : List (Event Global)) ×
      AreCalls view base first events last
  calls_of first last was order lasting = more_calls first first last [] no_call was order lasting

  call_of : (f g : FlusherView D) (event : Event Global) → IsRoundCall view base f g event → IsCall Global view (Open f.store) event (Open g.store)
  call_of f g event (makes_durable more same call) = call
  call_of f g event (fails_under_way more down same under_way call) = call

  calls_live : (from : State) (before : List (Event Global)) (first : FlusherView D) (events : List (Event Global)) (last : FlusherView D) → AreCalls view base first events last
      → IsLife Global view from before (Open first.store) → IsLife Global view from (events ++ before) (Open last.store)
  calls_live from before first events last no_call life = life
  calls_live from before first events last (one_call earlier event g h calls r call) life =
      goes_on (earlier ++ before) (Open g.store) (Open h.store) event (calls_live from before first earlier g calls life) (call_of g h event call)

  -- ---- a stop in it

  module _ (sound : (disk : D) → (view disk).honest → IsSound (view disk)) (from : State) (before : List (Event Global)) (first : FlusherView D)
      (life : IsLife Global view from before (Open first.store)) where
    -- a stop at any moment since the first round ends the life's last event
    record Stops (events : List (Event Global)) (last : FlusherView D) : Type 0 where
      later : (view first.store.disk).moment ≤ (view last.store.disk).moment
      each : (image : List (List ℕ)) (disk : D) → (view last.store.disk).since (view first.store.disk).moment image → ComesBack Global view image disk
          → (cut : List (Event Global)) × AreCutShort events cut × IsLife Global view from (cut ++ before) (Closed disk)

    calls_stop : (events : List (Event Global)) (last : FlusherView D) → AreCalls view base first events last → Stops events last
    calls_stop events last no_call = record {
      later = omega arith;
      each = λ image disk left is. (Unanswered [] ∷ [], before_any, stops before (Open first.store) (Open first.store) (Answered []) image disk life (nothing (Open first.store)) left is);
    }
    calls_stop events last (one_call earlier event g h calls r call) =
        let so_far = calls_stop earlier g calls in
        let p = call_parts view sound from (view first.store.disk).moment (earlier ++ before) (Open g.store) (Open h.store) event
        (calls_live from before first earlier g calls life) (call_of g h event call) so_far.later in
        record {
          later = p.later;
          each = λ image disk left is. elim (p.divides image disk left is) [
            | inl was ↦ let s = so_far.each image disk was is in (s.0, in_earlier event earlier s.0 s.1, s.2)
            | inr now ↦ (stopped event ∷ earlier, in_last event earlier, now)
          ];
        }

  -- a life goes on with a run, and with a stop since any of its rounds
  module _ (sound : (disk : D) → (view disk).honest → IsSound (view disk)) (from : State) (before : List (Event Global)) (first : FlusherView D)
      (life : IsLife Global view from before (Open first.store)) where
    pub lived : (last : FlusherView D) → (first.store.broken ≡ false → first.store.register ≡ after base first.durable) → AreInOrder first.durable first.taker.taken
        → AreLasting view base first last → HasLived view base from before first last
    lived last was order lasting =
        let c = calls_of first last was order lasting in
        record {
          events = c.0;
          calls = c.1;
          life = calls_live from before first c.0 last c.1 life;
          stops = λ mid done later earlier rest. (calls_stop sound from (done ++ before) mid (calls_live from before first done mid earlier life) later last rest).each;
        }
