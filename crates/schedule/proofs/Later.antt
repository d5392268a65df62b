-- What a later world keeps of an earlier one.
use Rattle.std.specs.Prelude.{◌==◌}
use Rattle.std.proofs.Common.{◌≡◌, ℕ, zero, suc, ◌≤◌, false, List, [], ◌∷◌, ◌++◌, length, take, refl, ap, sym, ◌∙◌, subst, arith, true≢false, append_assoc}
use Rattle.std.proofs.lemmas.List.{take-append-le, take_at, append-nil, length-take-le}
use Rattle.centre_core.specs.declared.command.Command.{Command}
use Rattle.centre_core.specs.State.{State}
use Rattle.centre_core.specs.History.{after}
use Rattle.centre_core.specs.Batches.{taken}
use Rattle.schedule.specs.declared.event.Event.{Event}
use Rattle.schedule.specs.declared.event.Event.TheVariants.{Submit, Seal, CommitBegin, CommitEnd, Publish, Answer, Read, CheckpointBegin, CheckpointEnd, Crash, Reopen}
use Rattle.schedule.specs.World.{World, Entry}
use Rattle.schedule.specs.Next.{all_of, records_of, first_of, answered, effect, Next, Run}
use Rattle.schedule.specs.Clauses.{IsBeginning, IsShortenedByCrashAlone, is_crash}
use Rattle.schedule.proofs.Lists.{opposed}
use Rattle.schedule.proofs.Soundness.{Sound, next_is_sound, crash_prefix}

module _ {A : Type 0} where
  begins_self : (xs : List (Command A)) → IsBeginning xs xs
  begins_self xs = ([], sym (append-nil xs))

  pub begins_trans : (xs ys zs : List (Command A)) → IsBeginning xs ys → IsBeginning ys zs → IsBeginning xs zs
  begins_trans xs ys zs p q = (p.0 ++ q.0, q.1 ∙ (ap (λ t. t ++ q.0) p.1 ∙ append_assoc xs p.0 q.0))

  -- of one list the shorter beginning begins the longer
  pub take_begins : (m n : ℕ) (xs : List (Command A)) → m ≤ n → IsBeginning (take m xs) (take n xs)
  take_begins zero n xs le = (take n xs, refl)
  take_begins (suc m) zero xs le = absurd (omega arith)
  take_begins (suc m) (suc n) [] le = ([], refl)
  take_begins (suc m) (suc n) (x ∷ xs) le = let r = take_begins m n xs (omega arith) in (r.0, ap (λ t. x ∷ t) r.1)

  -- from w to w' what is durable, published and answered stays
  pub record Grows (w w' : World A) : Type 0 where
    pub published : w.published ≤ w'.published
    pub safe : IsBeginning (take w.durable w.accepted) (take w'.durable w'.accepted)
    pub answers : (more : List (Entry A)) × (w'.answers ≡ w.answers ++ more)

  grows_same : (w : World A) → Grows w w
  grows_same w = record { published = omega arith; safe = begins_self (take w.durable w.accepted); answers = ([], sym (append-nil w.answers)) }

  grows_trans : (u v w : World A) → Grows u v → Grows v w → Grows u w
  grows_trans u v w p q = record {
    published = let a = p.published in let b = q.published in omega arith;
    safe = begins_trans (take u.durable u.accepted) (take v.durable v.accepted) (take w.durable w.accepted) p.safe q.safe;
    answers = (p.answers.0 ++ q.answers.0, q.answers.1 ∙ (ap (λ t. t ++ q.answers.0) p.answers.1 ∙ append_assoc u.answers p.answers.0 q.answers.0));
  }

  stays : (w : World A) → (more : List (Entry A)) × (w.answers ≡ w.answers ++ more)
  stays w = ([], sym (append-nil w.answers))

  takes_memory : (base : State) (w : World A) (e : Event A) → Sound base w → Grows w (effect base w e)
  takes_memory base w (Submit s c) h = record { published = omega arith; safe = begins_self (take w.durable w.accepted); answers = stays w }
  takes_memory base w (Seal s) h = record { published = omega arith; safe = begins_self (take w.durable w.accepted); answers = stays w }
  takes_memory base w CommitBegin h =
      let new = taken (after base w.accepted) w.batch in
      record {
        published = omega arith;
        safe = subst (λ t. IsBeginning (take w.durable w.accepted) t) (sym (take-append-le w.durable w.accepted new h.stored)) (begins_self (take w.durable w.accepted));
        answers = stays w;
      }
  takes_memory base w CommitEnd h = record { published = omega arith; safe = take_begins w.durable (length w.accepted) w.accepted h.stored; answers = stays w }
  takes_memory base w Publish h = record { published = h.shown; safe = begins_self (take w.durable w.accepted); answers = stays w }
  takes_memory base w (Answer s) h = record {
    published = omega arith;
    safe = begins_self (take w.durable w.accepted);
    answers = (answered (w.published == w.durable) (first_of s w.owed), refl);
  }
  takes_memory base w (Read s) h = record { published = omega arith; safe = begins_self (take w.durable w.accepted); answers = stays w }
  takes_memory base w CheckpointBegin h = record { published = omega arith; safe = begins_self (take w.durable w.accepted); answers = stays w }
  takes_memory base w CheckpointEnd h = record { published = omega arith; safe = begins_self (take w.durable w.accepted); answers = stays w }
  takes_memory base w (Crash k) h =
      let safe = take w.durable w.accepted in
      let more = all_of (take k (records_of w.in_flight)) in
      let same : take w.durable (safe ++ more) ≡ safe = take_at safe more w.durable (length-take-le w.durable w.accepted h.stored) in
      record { published = omega arith; safe = subst (λ t. IsBeginning safe t) (sym same) (begins_self safe); answers = stays w }
  takes_memory base w Reopen h = record {
    published = let a = h.shown in let b = h.stored in omega arith;
    safe = take_begins w.durable (length w.accepted) w.accepted h.stored;
    answers = stays w;
  }

  pub next_grows : (base : State) (w m : World A) (e : Event A) → Sound base w → Next base w e m → Grows w m
  next_grows base w m e h n = subst (λ (x : World A). Grows w x) (sym n.1) (takes_memory base w e h)

  pub run_grows : (base : State) (es : List (Event A)) (w w' : World A) → Sound base w → Run base w es w' → Grows w w'
  run_grows base [] w w' h r = subst (λ (x : World A). Grows w x) (sym r) (grows_same w)
  run_grows base (e ∷ es) w w' h r =
      grows_trans w r.0 w' (next_grows base w r.0 e h r.1) (run_grows base es r.0 w' (next_is_sound base w r.0 e h r.1) r.2)

  no_crash : (w w' : World A) (e : Event A) → is_crash e ≡ false → IsBeginning w.accepted w'.accepted → IsShortenedByCrashAlone w e w'
  no_crash w w' e is h = record { else_stays = λ a. h; to_a_beginning = λ a. absurd (opposed (is_crash e) is a); with_durable = λ a. absurd (opposed (is_crash e) is a) }

  shortens : (base : State) (w : World A) (e : Event A) → Sound base w → IsShortenedByCrashAlone w e (effect base w e)
  shortens base w (Submit s c) h = no_crash w (effect base w (Submit s c)) (Submit s c) refl (begins_self w.accepted)
  shortens base w (Seal s) h = no_crash w (effect base w (Seal s)) (Seal s) refl (begins_self w.accepted)
  shortens base w CommitBegin h = no_crash w (effect base w CommitBegin) CommitBegin refl (taken (after base w.accepted) w.batch, refl)
  shortens base w CommitEnd h = no_crash w (effect base w CommitEnd) CommitEnd refl (begins_self w.accepted)
  shortens base w Publish h = no_crash w (effect base w Publish) Publish refl (begins_self w.accepted)
  shortens base w (Answer s) h = no_crash w (effect base w (Answer s)) (Answer s) refl (begins_self w.accepted)
  shortens base w (Read s) h = no_crash w (effect base w (Read s)) (Read s) refl (begins_self w.accepted)
  shortens base w CheckpointBegin h = no_crash w (effect base w CheckpointBegin) CheckpointBegin refl (begins_self w.accepted)
  shortens base w CheckpointEnd h = no_crash w (effect base w CheckpointEnd) CheckpointEnd refl (begins_self w.accepted)
  shortens base w (Crash k) h = record {
    else_stays = λ a. absurd (true≢false a);
    to_a_beginning = λ a. crash_prefix base w.down w.durable w.accepted w.in_flight k h.aloft;
    with_durable = λ a. (all_of (take k (records_of w.in_flight)), refl);
  }
  shortens base w Reopen h = no_crash w (effect base w Reopen) Reopen refl (begins_self w.accepted)

  pub next_shortens : (base : State) (w m : World A) (e : Event A) → Sound base w → Next base w e m → IsShortenedByCrashAlone w e m
  next_shortens base w m e h n = subst (λ (x : World A). IsShortenedByCrashAlone w e x) (sym n.1) (shortens base w e h)
