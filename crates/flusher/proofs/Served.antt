-- How the commands of a round were served.
use Rattle.std.specs.Prelude.{◌⊎◌, is_some, MatchBool, Option, None, Some}
use Rattle.std.specs.declared.alloc.Global.{Global}
use Rattle.std.proofs.Common.{◌≡◌, ℕ, ◌<◌, ◌≤◌, inl, inr, Bool, true, false, cond, List, [], ◌∷◌, ◌++◌, length, take, refl, ap, sym, ◌∙◌, subst, arith, length-append}
use mathlib.Core.List.{IsPrefix}
use Rattle.centre_core.specs.Asked.{Asked}
use Rattle.centre_core.specs.State.{State}
use Rattle.centre_core.specs.History.{after}
use Rattle.centre_core.specs.Histories.{IsHistory}
use Rattle.centre_core.specs.Batches.{taken}
use Rattle.answers.specs.declared.channel.AnswerSender.{AnswerSender}
use Rattle.recovery.specs.Lives.{StoreView}
use Rattle.recovery.specs.Outcomes.{IsAnswered}
use Rattle.recovery.specs.declared.outcome.Outcome.{Outcome}
use Rattle.recovery.specs.declared.fault.StoreFault.{StoreFault}
use Rattle.recovery.specs.declared.fault.StoreFault.TheVariants.{BadGeometry, Broken, Damaged, DiskFault, EpochsUsedUp, NoMemory, Unformatted, Unready}
use Rattle.snapshots.proofs.Prefixes.{prefix_whole}
use Rattle.flusher.specs.declared.decision.Decision.{Decision}
use Rattle.flusher.specs.declared.decision.Decision.TheVariants as decision
use Rattle.flusher.specs.Stages.{Sent, Stage, stage, HasRun, commands_of, decision_for_all, entries_of, entry_of, sent_by, sent_to_all}
use Rattle.flusher.specs.Answerings.{HaveAnswered}
use Rattle.flusher.specs.Attempts.{HasBeenRefused, Tries}
use Rattle.flusher.specs.Batches.{HasRecorded, IsDone, IsRefusedBy, accepted_by}
use Rattle.flusher.specs.Served.{AreServedBy, HasServed, HavePublished, IsReason, decision_by}
use Rattle.flusher.specs.View.{progress, stage_of}
use Rattle.flusher.proofs.Decided.{comes, commands_by}
use Rattle.flusher.proofs.Going.{only_published, ran, rested, stopped}

abbrev G : Type 0
G = Asked Global

-- ---- the same answer to each

pub commands_alike : (t : ℕ) (list : List G) (d : Decision) (cs : List G) → commands_of (sent_to_all t list d cs) ≡ cs
commands_alike t list d [] = refl
commands_alike t list d (c ∷ cs) = ap (λ l. c ∷ l) (commands_alike t list d cs)

no_replies : (t : ℕ) (list : List G) (d : Decision) → ((c : G) → entry_of c d ≡ []) → (cs : List G) → entries_of (sent_to_all t list d cs) ≡ []
no_replies t list d none [] = refl
no_replies t list d none (c ∷ cs) = (λ i. none c i ++ entries_of (sent_to_all t list d cs)) ∙ no_replies t list d none cs

no_entry : (f : StoreFault) (c : G) → entry_of c (decision_by f) ≡ []
no_entry NoMemory c = refl
no_entry DiskFault c = refl
no_entry Broken c = refl
no_entry EpochsUsedUp c = refl
no_entry Unready c = refl
no_entry Unformatted c = refl
no_entry BadGeometry c = refl
no_entry (Damaged at) c = refl

by_stages : (base : State) (f f' g g' : Stage) (commands : List G) (answers : List Sent) → f ≡ f' → g ≡ g' → HasRun base f g commands answers → HasRun base f' g' commands answers
by_stages base f f' g g' commands answers e e' h = subst (λ (q : Stage × Stage). HasRun base q.0 q.1 commands answers) (λ j. (e j, e' j)) h

pub fewer_by : (list durable : List G) → IsPrefix list durable → (list ≡ durable → ⊥) → length list < length durable
fewer_by list durable pre other = by_split split
  where
    split : (length durable ≤ length list) ⊎ (length list < length durable)
    split = grind arith

    by_split : (length durable ≤ length list) ⊎ (length list < length durable) → length list < length durable
    by_split s = elim s [ inl q ↦ absurd (other (prefix_whole list durable pre q)) | inr q ↦ q ]

module _ {D : Type 0} where
  -- the stage of a store that is sound, and of one that is broken
  sound_stage : (list durable : List G) (store : StoreView Global D) (r : Tries) → store.broken ≡ false → stage list durable (is_some store.ongoing) false ≡ stage_of (progress list durable store r)
  sound_stage list durable store r up = λ i. stage list durable (cond (sym up i) false (is_some store.ongoing)) (sym up i)

  broken_stage : (list durable : List G) (store : StoreView Global D) (r : Tries) → store.broken ≡ true → stage list durable false true ≡ stage_of (progress list durable store r)
  broken_stage list durable store r down = λ i. stage list durable (cond (sym down i) false (is_some store.ongoing)) (sym down i)

  -- ---- a batch that was committed

  pub served_on : (base : State) (t : ℕ) (old new : StoreView Global D) (r r' : Tries) (seen log durable list cmds : List G) (os : List (Outcome Global)) (xs ys : List (AnswerSender Sent))
      → IsHistory base log → old.register ≡ after base log → old.broken ≡ false → length cmds ≤ 64 → IsDone cmds old new os →
      HasRecorded cmds old new → durable ≡ log ++ accepted_by cmds os → HavePublished t r.publications r'.publications log durable list cmds os xs
      ys
      → HasServed base t (progress seen log old r) (progress list durable new r') cmds xs ys
  served_on base t old new r r' seen log durable list cmds os xs ys history made up small done recorded is shown =
      let h = comes base old.register new.register log cmds os history made done.answered in
      let ts = taken (after base log) (take h.reached cmds) in
      let same : durable ≡ log ++ ts = is ∙ ap (λ l. log ++ l) h.accepted in
      let all = shown.all in
      let answers = sent_by t list all cmds os in
      let some : all ≡ false → 0 < length ts = λ e. let less = (shown.some e).0 in omega (arith, ap length same, length-append log ts, less) in
      let went = ran base seen log all cmds h.reached recorded.made_room (is_some old.ongoing) (is_some new.ongoing) answers small some (h.entries t list all) in
      let start : stage seen log (is_some old.ongoing) false ≡ stage_of (progress seen log old r) = sound_stage seen log old r up in
      let end : stage (cond all (log ++ ts) log) (log ++ ts) (is_some new.ongoing) false ≡ stage_of (progress list durable new r') =
      (λ i. stage ((ap (λ l. cond all l log) (sym same) ∙ sym shown.published) i) (sym same i) (is_some new.ongoing) false) ∙ sound_stage list durable new r' done.sound in
      let state : new.register ≡ after base durable = h.state ∙ ap (after base) (sym same) in
      record {
        answers = answers;
        asked = commands_by t list all cmds os h.each;
        answered = shown.answered;
        run = by_stages base _ _ _ _ cmds answers start end went;
        served = subst (λ b. AreServedBy base t (progress seen log old r) (progress list durable new r') cmds answers b) (sym up) (inl (record {
          outcomes = os;
          all = all;
          answered = subst (λ (q : State × State). IsAnswered q.0 cmds q.1 os) (λ j. (made j, state j)) done.answered;
          durable = is;
          published = shown.published;
          some = shown.some;
          sound = done.sound;
          each = refl;
          recorded = recorded;
        }));
      }

  -- ---- a commit that was refused

  idle_run : (base : State) (old new : StoreView Global D) (r r' : Tries) (made_room : Bool) (seen log cmds : List G) (answers : List Sent) →
      old.broken ≡ false → new.broken ≡ false → entries_of answers ≡ []
      → HasRun base (stage_of (progress seen log old r)) (stage_of (progress log log new r')) cmds answers
  idle_run base old new r r' made_room seen log cmds answers up sound none =
      by_stages base _ _ _ _ cmds answers (sound_stage seen log old r up) (sound_stage log log new r' sound)
      (only_published base seen log cmds made_room (is_some old.ongoing) (is_some new.ongoing) answers none)

  run_by : (base : State) (old new : StoreView Global D) (r r' : Tries) (seen log cmds : List G) (f : StoreFault) (answers : List Sent) →
      old.broken ≡ false → length cmds ≤ 64 → IsRefusedBy cmds old new f r.commits r'.commits → entries_of answers ≡ []
      → HasRun base (stage_of (progress seen log old r)) (stage_of (progress log log new r')) cmds answers
  run_by base old new r r' seen log cmds DiskFault answers up small h none =
      by_stages base _ _ _ _ cmds answers (sound_stage seen log old r up) (broken_stage log log new r' h.broken)
      (stopped base seen log cmds h.in_checkpoint false (is_some old.ongoing) answers h.some small none)
  run_by base old new r r' seen log cmds NoMemory answers up small h none = idle_run base old new r r' h.2.made_room seen log cmds answers up h.0.sound none
  run_by base old new r r' seen log cmds EpochsUsedUp answers up small h none =
      idle_run base old new r r' false seen log cmds answers up (ap (λ (s : StoreView Global D). s.broken) h.0 ∙ up) none
  run_by base old new r r' seen log cmds Broken answers up small h none = absurd h
  run_by base old new r r' seen log cmds Unready answers up small h none = absurd h
  run_by base old new r r' seen log cmds Unformatted answers up small h none = absurd h
  run_by base old new r r' seen log cmds BadGeometry answers up small h none = absurd h
  run_by base old new r r' seen log cmds (Damaged at) answers up small h none = absurd h

  reason_by : (base : State) (t : ℕ) (old new : StoreView Global D) (r r' : Tries) (seen log cmds : List G) (f : StoreFault) (answers : List Sent) →
      old.broken ≡ false → IsRefusedBy cmds old new f r.commits r'.commits
      → IsReason base t (progress seen log old r) (progress log log new r') cmds answers f
  reason_by base t old new r r' seen log cmds DiskFault answers up h = h
  reason_by base t old new r r' seen log cmds NoMemory answers up h = (h.1, h.0.sound, h.2)
  reason_by base t old new r r' seen log cmds EpochsUsedUp answers up h = (h.1, h.2, h.0)
  reason_by base t old new r r' seen log cmds Broken answers up h = absurd h
  reason_by base t old new r r' seen log cmds Unready answers up h = absurd h
  reason_by base t old new r r' seen log cmds Unformatted answers up h = absurd h
  reason_by base t old new r r' seen log cmds BadGeometry answers up h = absurd h
  reason_by base t old new r r' seen log cmds (Damaged at) answers up h = absurd h

  refused_at : (base : State) (t : ℕ) (old new : StoreView Global D) (r r' : Tries) (seen log cmds : List G) (f : StoreFault)
      (xs ys : List (AnswerSender Sent)) → old.broken ≡ false → length cmds ≤ 64 → IsRefusedBy cmds old new f r.commits r'.commits
      → HaveAnswered xs (sent_to_all t log (decision_by f) cmds) ys → HasServed base t (progress seen log old r) (progress log log new r') cmds xs ys
  refused_at base t old new r r' seen log cmds f xs ys up small h sent =
      let answers = sent_to_all t log (decision_by f) cmds in
      record {
        answers = answers;
        asked = commands_alike t log (decision_by f) cmds;
        answered = sent;
        run = run_by base old new r r' seen log cmds f answers up small h (no_replies t log (decision_by f) (no_entry f) cmds);
        served = subst (λ b. AreServedBy base t (progress seen log old r) (progress log log new r') cmds answers b) (sym up) (inr (inl (record {
          fault = f;
          reason = reason_by base t old new r r' seen log cmds f answers up h;
          durable = refl;
          published = refl;
          each = refl;
        })));
      }

  pub served_not : (base : State) (t : ℕ) (old new : StoreView Global D) (r r' : Tries) (seen log durable list cmds : List G) (f : StoreFault)
      (xs ys : List (AnswerSender Sent)) → old.broken ≡ false → length cmds ≤ 64 → IsRefusedBy cmds old new f r.commits r'.commits
      → list ≡ log → durable ≡ log → HaveAnswered xs (sent_to_all t list (decision_by f) cmds) ys → HasServed base t (progress seen log old r) (progress list durable new r') cmds xs ys
  served_not base t old new r r' seen log durable list cmds f xs ys up small h level same sent =
      subst (λ (q : List G × List G). HasServed base t (progress seen log old r) (progress q.0 q.1 new r') cmds xs ys) (λ j. (sym level j, sym same j))
      (refused_at base t old new r r' seen log cmds f xs ys up small h (subst (λ l. HaveAnswered xs (sent_to_all t l (decision_by f) cmds) ys) level sent))

  -- ---- a round that commits nothing

  after_at : (base : State) (t : ℕ) (store : StoreView Global D) (r r' : Tries) (list durable cmds : List G) (xs ys : List (AnswerSender Sent)) →
      store.broken ≡ false → length list < length durable → HasBeenRefused r.publications r'.publications →
      HaveAnswered xs (sent_to_all t list decision.NoMemory cmds) ys
      → HasServed base t (progress list durable store r) (progress list durable store r') cmds xs ys
  after_at base t store r r' list durable cmds xs ys up fewer refused sent =
      let answers = sent_to_all t list decision.NoMemory cmds in
      record {
        answers = answers;
        asked = commands_alike t list decision.NoMemory cmds;
        answered = sent;
        run = rested base (stage_of (progress list durable store r)) cmds answers (no_replies t list decision.NoMemory (λ c. refl) cmds);
        served = subst (λ b. AreServedBy base t (progress list durable store r) (progress list durable store r') cmds answers b) (sym up)
            (inr (inr (record { fewer = fewer; refused = refused; durable = refl; published = refl; store = refl; each = refl })));
      }

  broken_at : (base : State) (t : ℕ) (store : StoreView Global D) (r r' : Tries) (list durable cmds : List G) (xs ys : List (AnswerSender Sent)) →
      store.broken ≡ true → HaveAnswered xs (sent_to_all t list (decision.Fault Broken) cmds) ys
      → HasServed base t (progress list durable store r) (progress list durable store r') cmds xs ys
  broken_at base t store r r' list durable cmds xs ys down sent =
      let answers = sent_to_all t list (decision.Fault Broken) cmds in
      record {
        answers = answers;
        asked = commands_alike t list (decision.Fault Broken) cmds;
        answered = sent;
        run = rested base (stage_of (progress list durable store r)) cmds answers (no_replies t list (decision.Fault Broken) (λ c. refl) cmds);
        served = subst (λ b. AreServedBy base t (progress list durable store r) (progress list durable store r') cmds answers b) (sym down)
            (record { durable = refl; published = refl; store = refl; each = refl });
      }

  pub served_after : (base : State) (t : ℕ) (store : StoreView Global D) (r r' : Tries) (list durable list' durable' cmds : List G)
      (xs ys : List (AnswerSender Sent)) → store.broken ≡ false → IsPrefix list durable → (list ≡ durable → ⊥) →
      HasBeenRefused r.publications r'.publications → list' ≡ list → durable' ≡ durable
      → HaveAnswered xs (sent_to_all t list' decision.NoMemory cmds) ys → HasServed base t (progress list durable store r) (progress list' durable' store r') cmds xs ys
  served_after base t store r r' list durable list' durable' cmds xs ys up pre other refused same same' sent =
      subst (λ (q : List G × List G). HasServed base t (progress list durable store r) (progress q.0 q.1 store r') cmds xs ys) (λ j. (sym same j, sym same' j))
      (after_at base t store r r' list durable cmds xs ys up (fewer_by list durable pre other) refused (subst (λ l. HaveAnswered xs (sent_to_all t l decision.NoMemory cmds) ys) same sent))

  pub served_broken : (base : State) (t : ℕ) (store : StoreView Global D) (r r' : Tries) (list durable list' durable' cmds : List G)
      (xs ys : List (AnswerSender Sent)) → store.broken ≡ true → list' ≡ list → durable' ≡ durable
      → HaveAnswered xs (sent_to_all t list' (decision.Fault Broken) cmds) ys → HasServed base t (progress list durable store r) (progress list' durable' store r') cmds xs ys
  served_broken base t store r r' list durable list' durable' cmds xs ys down same same' sent =
      subst (λ (q : List G × List G). HasServed base t (progress list durable store r) (progress q.0 q.1 store r') cmds xs ys) (λ j. (sym same j, sym same' j))
      (broken_at base t store r r' list durable cmds xs ys down (subst (λ l. HaveAnswered xs (sent_to_all t l (decision.Fault Broken) cmds) ys) same sent))

  -- whether the disk is sound says why
  pub served_idle : (base : State) (t : ℕ) (store : StoreView Global D) (r r' : Tries) (list durable list' durable' cmds : List G)
      (xs ys : List (AnswerSender Sent)) (sound : Bool) (fault : Option StoreFault)
      → MatchBool sound (store.broken ≡ false) (store.broken ≡ true) → MatchBool sound (fault ≡ None) (fault ≡ Some Broken) → IsPrefix list durable →
      (sound ≡ true → list ≡ durable → ⊥) → (sound ≡ true → HasBeenRefused r.publications r'.publications) → list' ≡ list → durable' ≡ durable
      → HaveAnswered xs (sent_to_all t list' (decision_for_all fault) cmds) ys → HasServed base t (progress list durable store r) (progress list' durable' store r') cmds xs ys
  served_idle base t store r r' list durable list' durable' cmds xs ys true fault up is pre other refused same same' sent =
      served_after base t store r r' list durable list' durable' cmds xs ys up pre (other refl) (refused refl) same same'
      (subst (λ f. HaveAnswered xs (sent_to_all t list' (decision_for_all f) cmds) ys) is sent)
  served_idle base t store r r' list durable list' durable' cmds xs ys false fault down is pre other refused same same' sent =
      served_broken base t store r r' list durable list' durable' cmds xs ys down same same' (subst (λ f. HaveAnswered xs (sent_to_all t list' (decision_for_all f) cmds) ys) is sent)
