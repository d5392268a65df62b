-- What stops leave on the disk.
use Rattle.std.specs.Prelude.{◌⊎◌, ◌^◌, ◌-◌}
use Rattle.std.specs.declared.alloc.Global.{Global}
use Rattle.std.proofs.Common.{◌≡◌, ℕ, ◌<◌, ◌≤◌, inl, inr, true, false, true≢false, List, [], ◌++◌, take, refl, ap, sym, ◌∙◌, subst, arith, append_assoc}
use Rattle.std.proofs.lemmas.List.{append-nil}
use mathlib.Core.List.{Sublist}
use Rattle.sector_disk.specs.Disk.{IsSound, View}
use Rattle.sector_disk.specs.Run.{LeavesOnly}
use Rattle.sector_disk.proofs.Moments.{run_on, weaker}
use Rattle.centre_core.specs.Asked.{Asked}
use Rattle.centre_core.specs.State.{State}
use Rattle.centre_core.specs.History.{after}
use Rattle.centre_core.specs.Batches.{taken}
use Rattle.centre_core.proofs.InTurnLaws.{after-append}
use Rattle.centre_core.proofs.JoinedLaws.{after_taken}
use Rattle.checkpoint.specs.OnSide.{InEach}
use Rattle.checkpoint.proofs.Spared.{left_each}
use Rattle.recovery.specs.Lives.{StoreView, IsStoredIn}
use Rattle.recovery.specs.Outcomes.{IsAfterBatch, OpensToEither}
use Rattle.recovery.specs.OpensTo.{OpensTo}
use Rattle.recovery.proofs.Stored.{nothing_done, only_before}
use Rattle.flusher.specs.Batches.{FailsByDisk, HasBroken, HoldsImages}
use Rattle.flusher.specs.Stored.{AreUnderWay, IsStoredFor}
use Rattle.flusher.specs.Order.{AreInOrder}
use Rattle.flusher.specs.View.{FlusherView}
use Rattle.flusher.specs.Shared.{commands_among}
use Rattle.flusher.proofs.Ordered.{first_are_some, some_joined, some_longer}

abbrev G : Type 0
G = Asked Global

pub later_failed : (a b c : ℕ) → a ≤ b → (b < c) ⊎ (c ≡ 2 ^ 64 - 1) → (a < c) ⊎ (c ≡ 2 ^ 64 - 1)
later_failed a b c le h = elim h [ inl q ↦ inl (omega (arith, le, q)) | inr q ↦ inr q ]

module _ {D : Type 0} (view : D → View) where
  -- nothing was done
  pub keeps_self : (store : StoreView Global D) → ((view store.disk).honest → IsSound (view store.disk)) → HoldsImages view store store
  keeps_self store sound honest stored = record {
    honest = honest;
    any_moment = only_before Global store.register store.register (view store.disk) (view store.disk)
        (nothing_done Global store.layout store.side store.epoch store.journal store.register (view store.disk) stored.stored (sound honest));
    kept = λ up. stored;
  }

  pub fails_self : (store : StoreView Global D) → store.broken ≡ false → FailsByDisk view store store
  fails_self store sound = record { later = omega arith; failed = λ broken. absurd (true≢false (sym broken ∙ sound)) }

  -- a call that changes no register, and then one more
  pub keeps_on : (old mid new : StoreView Global D) → mid.register ≡ old.register → mid.broken ≡ false → HoldsImages view old mid → HoldsImages view mid new → HoldsImages view old new
  keeps_on old mid new same sound first second honest stored =
      let f = first honest stored in
      let s = second f.honest (f.kept sound) in
      let either : (image : List (List ℕ)) → OpensToEither Global old.register mid.register image → OpensToEither Global old.register new.register image =
      λ image is. elim is [ inl q ↦ inl q | inr q ↦ inl (subst (λ r. OpensTo Global r image) same q) ] in
      record {
        honest = s.honest;
        any_moment = run_on (view old.disk) (view mid.disk) (view new.disk) (OpensToEither Global old.register new.register) (OpensToEither Global old.register new.register)
            (weaker (view old.disk) (view mid.disk) (OpensToEither Global old.register mid.register) (OpensToEither Global old.register new.register) f.any_moment either)
            (subst (λ r. LeavesOnly (view mid.disk) (view new.disk) (OpensToEither Global r new.register)) same s.any_moment) (λ image is. is);
        kept = s.kept;
      }

  pub fails_on : (old mid new : StoreView Global D) → FailsByDisk view old mid → FailsByDisk view mid new → FailsByDisk view old new
  fails_on old mid new first second = record {
    later = let a = first.later in let b = second.later in omega (arith, a, b);
    failed = λ broken. later_failed (view old.disk).failures (view mid.disk).failures (view new.disk).failures first.later (second.failed broken);
  }

  -- the same from a view that is equal
  pub keeps_from : (old mid new : StoreView Global D) → mid ≡ old → HoldsImages view mid new → HoldsImages view old new
  keeps_from old mid new same h = subst (λ (s : StoreView Global D). HoldsImages view s new) same h

  pub fails_from : (old mid new : StoreView Global D) → mid ≡ old → FailsByDisk view mid new → FailsByDisk view old new
  fails_from old mid new same h = subst (λ (s : StoreView Global D). FailsByDisk view s new) same h

-- ---- a round

module _ {D : Type 0} (view : D → View) (base : State) (f g : FlusherView D) (batch : List G) (more_taken : commands_among g.taker.taken ≡ commands_among f.taker.taken ++ batch) where
  -- what was under way stays so
  pub still : (more : List G) → g.durable ≡ f.durable → AreUnderWay base f more → AreUnderWay base g more
  still more same u = record {
    batch = u.batch;
    reached = u.reached;
    part =
        let before = u.part.0 in
        let rest = u.part.1 in (
          before,
          rest ++ batch,
          more_taken ∙ ap (λ l. l ++ batch) u.part.2 ∙ append_assoc before (u.batch ++ rest) batch ∙ ap (λ l. before ++ l) (append_assoc u.batch rest batch),
        );
    these = u.these ∙ ap (λ l. taken (after base l) (take u.reached u.batch)) (sym same);
    order = subst (λ (q : List G × List G). Sublist (q.0 ++ more) q.1) (λ j. (sym same j, sym more_taken j)) (some_longer (f.durable ++ more) (commands_among f.taker.taken) batch u.order);
  }

  -- nothing was committed
  pub stored_still : g.store ≡ f.store → g.durable ≡ f.durable → IsStoredFor view base f → IsStoredFor view base g
  stored_still store durable h = record {
    honest = subst (λ (s : StoreView Global D). (view s.disk).honest) (sym store) h.honest;
    sound = λ up. subst (λ (s : StoreView Global D). IsStoredIn Global view s) (sym store) (h.sound (ap (λ (s : StoreView Global D). s.broken) (sym store) ∙ up));
    failed = λ down.
        let w = h.failed (ap (λ (s : StoreView Global D). s.broken) (sym store) ∙ down) in (
          w.0,
          still w.0 durable w.1,
          subst (λ (q : StoreView Global D × List G). InEach (view q.0.disk) (OpensToEither Global (after base q.1) (after base (q.1 ++ w.0)))) (λ j. (sym store j, sym durable j)) w.2,
        );
  }

  pub begun : (more : List G) (n : ℕ) → AreInOrder f.durable f.taker.taken → g.durable ≡ f.durable → more ≡ taken (after base g.durable) (take n batch) → AreUnderWay base g more
  begun more n order same is = record {
    batch = batch;
    reached = n;
    part = (commands_among f.taker.taken, [], more_taken ∙ ap (λ l. commands_among f.taker.taken ++ l) (sym (append-nil batch)));
    these = is;
    order =
        let some : Sublist more batch = subst (λ l. Sublist l batch) (sym is) (first_are_some n batch (after base g.durable)) in
        subst (λ (q : List G × List G). Sublist (q.0 ++ more) q.1) (λ j. (sym same j, sym more_taken j)) (some_joined f.durable more (commands_among f.taker.taken) batch order some);
  }

  -- the disk failed in the commit
  failed_by : f.store.register ≡ after base f.durable → AreInOrder f.durable f.taker.taken → g.durable ≡ f.durable →
      (g.store.register ≡ f.store.register) ⊎ IsAfterBatch f.store.register batch g.store.register →
      InEach (view g.store.disk) (OpensToEither Global f.store.register g.store.register)
      → (more : List G) × AreUnderWay base g more × InEach (view g.store.disk) (OpensToEither Global (after base g.durable) (after base (g.durable ++ more)))
  failed_by made order same (inl q) each =
      let was : f.store.register ≡ after base g.durable = made ∙ ap (after base) (sym same) in (
        [],
        begun [] 0 order same refl,
        λ image is. elim (each image is) [
          | inl x ↦ inl (subst (λ s. OpensTo Global s image) was x)
          | inr x ↦ inl (subst (λ s. OpensTo Global s image) (q ∙ was) x)
        ],
      )
  failed_by made order same (inr q) each =
      let was : f.store.register ≡ after base g.durable = made ∙ ap (after base) (sym same) in
      let n = q.0 in
      let more = taken (after base g.durable) (take n batch) in
      let now : g.store.register ≡ after base (g.durable ++ more) =
      q.1 ∙ ap (λ s. after s (take n batch)) was ∙ sym (after_taken (after base g.durable) (take n batch)) ∙ sym (after-append base g.durable more) in (
        more,
        begun more n order same refl,
        λ image is. elim (each image is) [
          | inl x ↦ inl (subst (λ s. OpensTo Global s image) was x)
          | inr x ↦ inr (subst (λ s. OpensTo Global s image) now x)
        ],
      )

  -- a batch was committed, or the disk failed in it
  pub stored_on : f.store.broken ≡ false → f.store.register ≡ after base f.durable → AreInOrder f.durable f.taker.taken →
      HoldsImages view f.store g.store → (g.store.broken ≡ true → HasBroken batch f.store g.store × (g.durable ≡ f.durable))
      → ((view g.store.disk).honest → IsSound (view g.store.disk)) → IsStoredFor view base f → IsStoredFor view base g
  stored_on up made order images under_way sound h =
      let k = images h.honest (h.sound up) in
      record {
        honest = k.honest;
        sound = k.kept;
        failed = λ down.
            let b = under_way down in
            failed_by made order b.1 b.0.register (left_each (view f.store.disk) (view g.store.disk) (OpensToEither Global f.store.register g.store.register) k.any_moment (sound k.honest));
      }
