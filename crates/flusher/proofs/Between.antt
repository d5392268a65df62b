-- What a stop leaves at any moment of a run of rounds, and what breaks the store.
use Rattle.std.specs.declared.alloc.Global.{Global}
use Rattle.std.proofs.Common.{◌≡◌, ◌⊎◌, ℕ, ◌≤◌, inl, inr, Bool, true, false, true≢false, List, ◌++◌, take, refl, ap, sym, ◌∙◌, subst}
use mathlib.Core.List.{IsPrefix}
use Rattle.sector_disk.specs.Disk.{HasFailed, IsSound, View}
use Rattle.sector_disk.specs.Run.{LeavesOnly}
use Rattle.sector_disk.proofs.Moments.{run_on, started, weaker}
use Rattle.centre_core.specs.Asked.{Asked}
use Rattle.centre_core.specs.State.{State}
use Rattle.centre_core.specs.History.{after}
use Rattle.centre_core.specs.Batches.{taken}
use Rattle.centre_core.proofs.InTurnLaws.{after-append}
use Rattle.centre_core.proofs.JoinedLaws.{after_taken}
use Rattle.recovery.specs.Lives.{StoreView}
use Rattle.recovery.specs.Outcomes.{IsAfterBatch, OpensToEither}
use Rattle.recovery.specs.OpensTo.{OpensTo}
use Rattle.recovery.specs.declared.fault.StoreFault.{StoreFault}
use Rattle.recovery.specs.declared.fault.StoreFault.TheVariants.{BadGeometry, Broken, Damaged, DiskFault, EpochsUsedUp, NoMemory, Unformatted, Unready}
use Rattle.snapshots.proofs.Prefixes.{prefix_self, prefix_trans}
use Rattle.flusher.specs.Stages.{Sent}
use Rattle.flusher.specs.Shared.{commands_among}
use Rattle.flusher.specs.Batches.{HasBroken}
use Rattle.flusher.specs.Served.{AreServedBy, IsReason}
use Rattle.flusher.specs.Rounds.{IsRound}
use Rattle.flusher.specs.Runs.{AreRounds, next, none}
use Rattle.flusher.specs.Order.{AreInOrder}
use Rattle.flusher.specs.Stored.{IsStoredFor, OpensBetween}
use Rattle.flusher.specs.View.{FlusherView, RoundProgress, progress_of}
use Rattle.flusher.proofs.Batched.{commands_among-append}
use Rattle.flusher.proofs.ByItself.{round_longer}
use Rattle.flusher.proofs.Kept.{begun, keeps_self, later_failed, still}

abbrev G : Type 0
G = Asked Global

-- ---- what a round says of its store

module _ {D : Type 0} (base : State) (t : ℕ) (f g : RoundProgress D) (commands : List G) (answers : List Sent) where
  idle_by : (broken : Bool) → broken ≡ true → AreServedBy base t f g commands answers broken → (g.store ≡ f.store) × (g.durable ≡ f.durable)
  idle_by true e h = (h.store, h.durable)
  idle_by false e h = absurd (true≢false (sym e))

  same_sound : g.store ≡ f.store → f.store.broken ≡ false → g.store.broken ≡ true → ⊥
  same_sound same up down = true≢false (sym down ∙ ap (λ (s : StoreView Global D). s.broken) same ∙ up)

  reason_broken : (fault : StoreFault) → IsReason base t f g commands answers fault → f.store.broken ≡ false → g.store.broken ≡ true → HasBroken commands f.store g.store
  reason_broken DiskFault h up down = h
  reason_broken NoMemory h up down = absurd (true≢false (sym down ∙ h.1))
  reason_broken EpochsUsedUp h up down = absurd (same_sound h.2 up down)
  reason_broken Broken h up down = absurd h
  reason_broken Unready h up down = absurd h
  reason_broken Unformatted h up down = absurd h
  reason_broken BadGeometry h up down = absurd h
  reason_broken (Damaged at) h up down = absurd h

  broken_by : (broken : Bool) → broken ≡ false → AreServedBy base t f g commands answers broken → f.store.broken ≡ false → g.store.broken ≡ true →
      HasBroken commands f.store g.store × (g.durable ≡ f.durable)
  broken_by true e h up down = absurd (true≢false e)
  broken_by false e h up down = elim h [
    | inl done ↦ absurd (true≢false (sym down ∙ done.sound))
    | inr rest ↦ elim rest [
      | inl refused ↦ (reason_broken refused.fault refused.reason up down, refused.durable)
      | inr late ↦ absurd (same_sound late.store up down)
    ]
  ]

module _ {D : Type 0} (view : D → View) (base : State) (f g : FlusherView D) (r : IsRound view base f g) where
  -- a store that is broken is left as it is
  pub round_idle : f.store.broken ≡ true → (g.store ≡ f.store) × (g.durable ≡ f.durable)
  round_idle down = idle_by base (view g.store.disk).moment (progress_of f) (progress_of g) (commands_among r.popped) r.served.answers f.store.broken down r.served.served

  -- a store that a round breaks has the register from before, or that after the first of the commands
  pub round_broken : f.store.broken ≡ false → g.store.broken ≡ true → HasBroken (commands_among r.popped) f.store g.store × (g.durable ≡ f.durable)
  round_broken up down = broken_by base (view g.store.disk).moment (progress_of f) (progress_of g) (commands_among r.popped) r.served.answers f.store.broken up r.served.served up down

-- what is durable grows
pub rounds_longer : {D : Type 0} (view : D → View) (base : State) (f g : FlusherView D) → AreRounds view base f g → IsPrefix f.durable g.durable
rounds_longer view base f g (none x) = prefix_self x.durable
rounds_longer view base f g (next x m y first rest) = prefix_trans x.durable m.durable y.durable (round_longer view base x m first) (rounds_longer view base m y rest)

-- ---- a run

module _ {D : Type 0} (view : D → View) (base : State) where
  -- before the first round
  pub none_between : (f : FlusherView D) → ((view f.store.disk).honest → IsSound (view f.store.disk)) → f.store.register ≡ after base f.durable →
      IsStoredFor view base f → f.store.broken ≡ false → LeavesOnly (view f.store.disk) (view f.store.disk) (OpensBetween base f f)
  none_between f sound made h up =
      let k = keeps_self view f.store sound h.honest (h.sound up) in
      let at : (image : List (List ℕ)) → OpensTo Global f.store.register image → OpensBetween base f f image =
      λ image is. inl (f.durable, prefix_self f.durable, prefix_self f.durable, subst (λ s. OpensTo Global s image) made is) in
      weaker (view f.store.disk) (view f.store.disk) (OpensToEither Global f.store.register f.store.register) (OpensBetween base f f) k.any_moment
      (λ image is. elim is [ inl q ↦ at image q | inr q ↦ at image q ])

  -- the same, also of a store that is broken
  now_by : (f : FlusherView D) (b : Bool) → f.store.broken ≡ b → ((view f.store.disk).honest → IsSound (view f.store.disk)) →
      (f.store.broken ≡ false → f.store.register ≡ after base f.durable) → IsStoredFor view base f
      → LeavesOnly (view f.store.disk) (view f.store.disk) (OpensBetween base f f)
  now_by f true down sound made h =
      let w = h.failed down in
      started (view f.store.disk) (OpensBetween base f f) (sound h.honest)
      (λ image is. elim (w.2 image is) [ inl q ↦ inl (f.durable, prefix_self f.durable, prefix_self f.durable, q) | inr q ↦ inr (w.0, down, w.1, q) ])
  now_by f false up sound made h = none_between f sound (made up) h up

  pub now_between : (f : FlusherView D) → ((view f.store.disk).honest → IsSound (view f.store.disk)) → (f.store.broken ≡ false → f.store.register ≡ after base f.durable) → IsStoredFor view base f
      → LeavesOnly (view f.store.disk) (view f.store.disk) (OpensBetween base f f)
  now_between f sound made h = now_by f f.store.broken refl sound made h

  module _ (f m g : FlusherView D) (r : IsRound view base m g) (before : AreRounds view base f m) where
    more_taken : commands_among g.taker.taken ≡ commands_among m.taker.taken ++ commands_among r.popped
    more_taken = ap commands_among r.taken.taken ∙ commands_among-append m.taker.taken r.popped

    -- the store was broken before the round
    idle_between : m.store.broken ≡ true → LeavesOnly (view f.store.disk) (view m.store.disk) (OpensBetween base f m) → LeavesOnly (view f.store.disk) (view g.store.disk) (OpensBetween base f g)
    idle_between down h =
        let same = round_idle view base m g r down in
        let durable = same.1 in
        let stays : (image : List (List ℕ)) → OpensBetween base f m image → OpensBetween base f g image =
        λ image is. elim is [
          | inl q ↦ inl (q.0, q.1, subst (IsPrefix q.0) (sym durable) q.2, q.3)
          | inr q ↦ inr (
            q.0,
            ap (λ (s : StoreView Global D). s.broken) same.0 ∙ down,
            still view base m g (commands_among r.popped) more_taken q.0 durable q.2,
            subst (λ (d : List G). OpensTo Global (after base (d ++ q.0)) image) (sym durable) q.3,
          )
        ] in
        subst (λ (s : StoreView Global D). LeavesOnly (view f.store.disk) (view s.disk) (OpensBetween base f g)) (sym same.0)
        (weaker (view f.store.disk) (view m.store.disk) (OpensBetween base f m) (OpensBetween base f g) h stays)

    module _ (up : m.store.broken ≡ false) (made : m.store.register ≡ after base m.durable) (order : AreInOrder m.durable m.taker.taken) where
      -- the register from before the round
      at_before : (image : List (List ℕ)) → OpensTo Global m.store.register image → OpensBetween base f g image
      at_before image is = inl (m.durable, rounds_longer view base f m before, round_longer view base m g r, subst (λ s. OpensTo Global s image) made is)

      -- the register that the disk's failure left
      at_broken : g.store.broken ≡ true → g.durable ≡ m.durable → (g.store.register ≡ m.store.register) ⊎
          IsAfterBatch m.store.register (commands_among r.popped) g.store.register → (image : List (List ℕ)) → OpensTo Global g.store.register image →
          OpensBetween base f g image
      at_broken down same (inl q) image is = at_before image (subst (λ s. OpensTo Global s image) q is)
      at_broken down same (inr q) image is =
          let batch = commands_among r.popped in
          let was : m.store.register ≡ after base g.durable = made ∙ ap (after base) (sym same) in
          let more = taken (after base g.durable) (take q.0 batch) in
          let now : g.store.register ≡ after base (g.durable ++ more) =
          q.1 ∙ ap (λ s. after s (take q.0 batch)) was ∙ sym (after_taken (after base g.durable) (take q.0 batch)) ∙ sym (after-append base g.durable more) in
          inr (more, down, begun view base m g batch more_taken more q.0 order same refl, subst (λ s. OpensTo Global s image) now is)

      -- the register after the round
      at_after : (b : Bool) → g.store.broken ≡ b → (g.store.broken ≡ false → g.store.register ≡ after base g.durable) → (image : List (List ℕ)) →
          OpensTo Global g.store.register image → OpensBetween base f g image
      at_after true down sound image is = let b = round_broken view base m g r up down in at_broken down b.1 b.0.register image is
      at_after false now sound image is =
          inl (
            g.durable,
            prefix_trans f.durable m.durable g.durable (rounds_longer view base f m before) (round_longer view base m g r),
            prefix_self g.durable,
            subst (λ s. OpensTo Global s image) (sound now) is,
          )

      round_between : (g.store.broken ≡ false → g.store.register ≡ after base g.durable) → LeavesOnly (view m.store.disk) (view g.store.disk) (OpensToEither Global m.store.register g.store.register)
          → LeavesOnly (view f.store.disk) (view m.store.disk) (OpensBetween base f m) → LeavesOnly (view f.store.disk) (view g.store.disk) (OpensBetween base f g)
      round_between sound second first =
          let grows : (image : List (List ℕ)) → OpensBetween base f m image → OpensBetween base f g image =
          λ image is. elim is [
            | inl q ↦ inl (q.0, q.1, prefix_trans q.0 m.durable g.durable q.2 (round_longer view base m g r), q.3)
            | inr q ↦ absurd (true≢false (sym q.1 ∙ up))
          ] in
          run_on (view f.store.disk) (view m.store.disk) (view g.store.disk) (OpensBetween base f g) (OpensToEither Global m.store.register g.store.register)
          (weaker (view f.store.disk) (view m.store.disk) (OpensBetween base f m) (OpensBetween base f g) first grows) second
          (λ image is. elim is [ inl q ↦ at_before image q | inr q ↦ at_after g.store.broken refl sound image q ])

    -- one more round
    pub one_more_between : (b : Bool) → m.store.broken ≡ b → (m.store.broken ≡ false → m.store.register ≡ after base m.durable) →
        AreInOrder m.durable m.taker.taken → (g.store.broken ≡ false → g.store.register ≡ after base g.durable)
        → (m.store.broken ≡ false → LeavesOnly (view m.store.disk) (view g.store.disk) (OpensToEither Global m.store.register g.store.register))
        → LeavesOnly (view f.store.disk) (view m.store.disk) (OpensBetween base f m) → LeavesOnly (view f.store.disk) (view g.store.disk) (OpensBetween base f g)
    one_more_between true down made order sound second first = idle_between down first
    one_more_between false up made order sound second first = round_between up (made up) order sound (second up) first

    -- a store that was sound and is broken has a disk that failed in between
    pub one_more_failed : (b : Bool) → m.store.broken ≡ b → (view f.store.disk).failures ≤ (view m.store.disk).failures →
        (m.store.broken ≡ false → g.store.broken ≡ true → HasFailed (view m.store.disk) (view g.store.disk))
        → (m.store.broken ≡ true → HasFailed (view f.store.disk) (view m.store.disk)) → g.store.broken ≡ true → HasFailed (view f.store.disk) (view g.store.disk)
    one_more_failed true broken later now earlier down = subst (λ (s : StoreView Global D). HasFailed (view f.store.disk) (view s.disk)) (sym (round_idle view base m g r broken).0) (earlier broken)
    one_more_failed false up later now earlier down = later_failed (view f.store.disk).failures (view m.store.disk).failures (view g.store.disk).failures later (now up down)
