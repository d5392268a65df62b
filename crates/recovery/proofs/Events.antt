-- The calls of a store as events of the life of its disk.
use Rattle.std.proofs.Common.{◌≡◌, inl, inr, ℕ, zero, suc, true, false, List, [], ◌∷◌, ◌++◌, ◌-◌, length, map, take, replicate, refl, sym, ap, subst, ◌∙◌, arith}
use mathlib.Core.Bool.{false≢true}
use Rattle.sector_disk.specs.Disk.{IsSound, View}
use Rattle.sector_disk.specs.Run.{LeavesOnly}
use Rattle.centre_core.specs.Asked.{Asked}
use Rattle.centre_core.specs.Batches.{replies, taken}
use Rattle.centre_core.specs.declared.reply.Reply.{Reply}
use Rattle.centre_core.specs.State.{State}
use Rattle.centre_core.specs.Step.{step}
use Rattle.centre_core.specs.Same.{under}
use Rattle.centre_core.specs.History.{accepts, after, next}
use Rattle.centre_core.specs.Histories.{IsHistory}
use Rattle.centre_core.proofs.JoinedLaws.{after_taken, taken_history}
use Rattle.centre_core.proofs.SameLaws.{after_is_same, histories_are_same}
use Rattle.centre_core.proofs.StateLaws.{step_is_next}
use Rattle.recovery.specs.declared.outcome.Outcome.{Outcome}
use Rattle.recovery.specs.declared.outcome.Outcome.TheVariants as outcome
use Rattle.recovery.specs.Outcomes.{AreRecorded, IsAnswered, IsEnd, OpensToEither}
use Rattle.recovery.specs.Serving.{IsAfterOne}
use Rattle.recovery.specs.OpensTo.{OpensTo}
use Rattle.recovery.specs.Lives.{HasAccepted, IsAnsweredCall, IsStoredIn, IsUnansweredCall, StoreView, acknowledged_of, answers, fails}
use Rattle.recovery.proofs.Batches.{first_or, none_recorded, same_verdict}
use Rattle.recovery.proofs.Stored.{nothing_done, only_before}

-- ---- the commands that a batch accepts

module _ {B : Type 0} where
  module _ (C : Type 0) where
    none_acknowledged : (cs : List (Asked B)) (k : ℕ) → acknowledged_of {C = C} cs (replicate k outcome.NoMemory) ≡ []
    none_acknowledged [] k = refl
    none_acknowledged (c ∷ cs) zero = refl
    none_acknowledged (c ∷ cs) (suc k) = none_acknowledged cs k

    acknowledged_are : (s : State) (cs : List (Asked B)) (n k : ℕ) → acknowledged_of {C = C} cs (map outcome.Replied (replies C s (take n cs)) ++ replicate k outcome.NoMemory) ≡ taken s (take n cs)
    acknowledged_are s [] zero k = refl
    acknowledged_are s [] (suc n) k = refl
    acknowledged_are s (c ∷ cs) zero k = none_acknowledged (c ∷ cs) k
    acknowledged_are s (c ∷ cs) (suc n) k =
        ap (λ b. first_or b c (acknowledged_of {C = C} cs (map outcome.Replied (replies C (next s c) (take n cs)) ++ replicate k outcome.NoMemory))) (same_verdict C s c)
        ∙ ap (first_or (accepts s c) c) (acknowledged_are (next s c) cs n k)

  module _ (A : Type 0) (s t : State) (commands : List (Asked B)) where
    first_accepted : (n : ℕ) → t ≡ after s (take n commands) → IsHistory s (map (under A) (taken s (take n commands))) × (t ≡ after s (map (under A) (taken s (take n commands))))
    first_accepted n e = (
      histories_are_same A s (taken s (take n commands)) (taken_history s (take n commands)),
      e ∙ sym (after_taken s (take n commands)) ∙ sym (after_is_same A s (taken s (take n commands))),
    )

    recorded_accepted : (recorded : List (Asked A)) → AreRecorded A s commands t recorded → IsHistory s recorded × (t ≡ after s recorded)
    recorded_accepted recorded are = subst (λ (l : List (Asked A)). IsHistory s l × (t ≡ after s l)) (sym are.these) (first_accepted are.applied are.state)

    answered_accepted : {C : Type 0} (outcomes : List (Outcome C)) → IsAnswered s commands t outcomes →
        IsHistory s (map (under A) (acknowledged_of commands outcomes)) × (t ≡ after s (map (under A) (acknowledged_of commands outcomes)))
    answered_accepted {C} outcomes is =
        let same : acknowledged_of commands outcomes ≡ taken s (take is.applied commands) = ap (acknowledged_of commands) is.outcomes_are ∙ acknowledged_are C s commands is.applied _ in
        subst (λ (l : List (Asked B)). IsHistory s (map (under A) l) × (t ≡ after s (map (under A) l))) (sym same) (first_accepted is.applied is.state)

-- a batch applied to the state as a checkpoint left it
pub answered_later : {B C : Type 0} (s m t u : State) (cs : List (Asked B)) (outcomes : List (Outcome C)) → m ≡ s → u ≡ t → IsAnswered m cs t outcomes → IsAnswered s cs u outcomes
answered_later {B} {C} s m t u cs outcomes same last is = record {
  applied = is.applied;
  end = subst (λ x. IsEnd cs is.applied x) (sym last) is.end;
  state = last ∙ is.state ∙ ap (λ x. after x (take is.applied cs)) same;
  outcomes_are = is.outcomes_are ∙ ap (λ x. map outcome.Replied (replies C x (take is.applied cs)) ++ replicate (length cs - is.applied) outcome.NoMemory) same;
}

-- ---- calls

module _ (A : Type 0) {D : Type 0} (view : D → View) where
  -- nothing is done, also not by a store that is broken
  pub nothing_accepted : (store : StoreView A D) → (view store.disk).honest → IsSound (view store.disk) → HasAccepted A view store store []
  nothing_accepted store honest sound = record {
    honest = honest;
    history = tt;
    made = refl;
    any_moment = λ stored. only_before A store.register store.register (view store.disk) (view store.disk)
        (nothing_done A store.layout store.side store.epoch store.journal store.register (view store.disk) stored.stored sound);
    kept = λ whole stored. stored;
    broken = λ is. refl;
  }

  -- the register stays, and so does what the disk opens to
  pub none_accepted : (old new : StoreView A D) → (view new.disk).honest → new.register ≡ old.register → (IsStoredIn A view old → LeavesOnly (view old.disk) (view new.disk) (OpensTo A old.register))
      → (new.broken ≡ false → IsStoredIn A view old → IsStoredIn A view new) → old.broken ≡ false → HasAccepted A view old new []
  none_accepted old new honest same leaves kept whole = record {
    honest = honest;
    history = tt;
    made = same;
    any_moment = λ stored. only_before A old.register new.register (view old.disk) (view new.disk) (leaves stored);
    kept = kept;
    broken = λ is. absurd (false≢true (sym whole ∙ is));
  }

  module _ {B : Type 0} (old new : StoreView A D) (commands : List (Asked B)) where
    pub unanswered_idle : HasAccepted A view old new [] → IsUnansweredCall A view old commands new
    unanswered_idle done = ([], none_recorded A old.register new.register commands done.made, fails old new [] done)

    module _ (honest : (view new.disk).honest) (leaves : IsStoredIn A view old → LeavesOnly (view old.disk) (view new.disk) (OpensToEither A old.register new.register))
        (kept : new.broken ≡ false → IsStoredIn A view old → IsStoredIn A view new) (whole : old.broken ≡ false) where
      accepted : (cs : List (Asked A)) → IsHistory old.register cs × (new.register ≡ after old.register cs) → HasAccepted A view old new cs
      accepted cs is = record { honest = honest; history = is.0; made = is.1; any_moment = leaves; kept = kept; broken = λ is. absurd (false≢true (sym whole ∙ is)) }

      pub is_unanswered : (recorded : List (Asked A)) → AreRecorded A old.register commands new.register recorded → IsUnansweredCall A view old commands new
      is_unanswered recorded are = (recorded, are, fails old new recorded (accepted recorded (recorded_accepted A old.register new.register commands recorded are)))

      pub is_answered : {C : Type 0} (outcomes : List (Outcome C)) → IsAnswered old.register commands new.register outcomes → new.broken ≡ false → IsAnsweredCall A view old commands outcomes new
      is_answered outcomes is now =
          let cs = map (under A) (acknowledged_of commands outcomes) in
          answers old new cs (accepted cs (answered_accepted A old.register new.register commands outcomes is)) now

  -- ---- one command

  module _ {B : Type 0} (old new : StoreView A D) (c : Asked B) (honest : (view new.disk).honest)
      (leaves : IsStoredIn A view old → LeavesOnly (view old.disk) (view new.disk) (OpensToEither A old.register new.register))
      (kept : new.broken ≡ false → IsStoredIn A view old → IsStoredIn A view new) (broken : old.broken ≡ true → new ≡ old) where
    one_accepted : (cs : List (Asked A)) → IsHistory old.register cs × (new.register ≡ after old.register cs) → HasAccepted A view old new cs
    one_accepted cs is = record { honest = honest; history = is.0; made = is.1; any_moment = leaves; kept = kept; broken = broken }

    one_recorded : (recorded : List (Asked A)) → AreRecorded A old.register (c ∷ []) new.register recorded → IsUnansweredCall A view old (c ∷ []) new
    one_recorded recorded are = (recorded, are, fails old new recorded (one_accepted recorded (recorded_accepted A old.register new.register (c ∷ []) recorded are)))

    pub one_unanswered : IsAfterOne old.register c new.register → IsUnansweredCall A view old (c ∷ []) new
    one_unanswered (inl same) = one_recorded [] (none_recorded A old.register new.register (c ∷ []) same)
    one_unanswered (inr done) = one_recorded (map (under A) (taken old.register (c ∷ []))) (record { applied = 1; state = done.1; these = refl })

-- a reply to one command answers a batch of it
pub one_is_answered : {B C : Type 0} (s t : State) (c : Asked B) (reply : Reply C) → (t, reply) ≡ step s c → IsAnswered s (c ∷ []) t (outcome.Replied reply ∷ [])
one_is_answered {B} {C} s t c reply done = record {
  applied = 1;
  end = record { most = omega arith; wants = λ d at. absurd cc };
  state = ap (λ (r : State × Reply C). r.0) done ∙ step_is_next C s c;
  outcomes_are = ap (λ (r : State × Reply C). outcome.Replied r.1 ∷ []) done;
}
