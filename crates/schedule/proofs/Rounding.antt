-- A round goes by a run.
use Rattle.std.specs.Prelude.{Some, None, not, nat_lt, nat_le, is_none, get_or, set, take, ◌==◌}
use Rattle.std.specs.List.{AllByRecursion}
use Rattle.std.proofs.Common.{◌≡◌, ℕ, zero, suc, ◌+◌, ◌<◌, ◌≤◌, Bool, true, false, cond, ◌&&◌, List, [], ◌∷◌, ◌++◌, length, drop, refl, ap, sym, ◌∙◌, subst, arith, append_assoc, length-append}
use Rattle.std.proofs.lemmas.List.{append-nil, length-set, set-set, set-get_or}
use Rattle.base.proofs.Numbers.{test_by_less, test_by_same, test_by_le}
use Rattle.base.proofs.Bools.{and_is_true}
use Rattle.centre_core.specs.declared.command.Command.{Command}
use Rattle.centre_core.specs.State.{State}
use Rattle.centre_core.specs.History.{next, after}
use Rattle.centre_core.specs.Batches.{with_replies, taken}
use Rattle.schedule.specs.declared.event.Event.{Event}
use Rattle.schedule.specs.declared.event.Event.TheVariants.{Seal, CommitBegin, CommitEnd, Answer, CheckpointBegin, Crash}
use Rattle.schedule.specs.World.{World, Line, line, line_of, with_line, Entry}
use Rattle.schedule.specs.Next.{is_still, is_empty, first_one, first_of, without_first, answered, seen_after, cut, emptied, Next, Run}
use Rattle.schedule.specs.Rounds.{Round, at, fed, queues, AreOf, Goes, GoesDown, IsIdle, seals, answers_to, room_if, move_if, give_up, under_way}
use Rattle.schedule.specs.Rounds.{left_under_way, publish_if, events_of, accepted_after, after_commit, after_round, after_idle_round, records_after}
use Rattle.schedule.specs.Rounds.{after_stop, stopped_commit, stopped_checkpoint, RoundsRun, IdleRoundsRun, CrashedRoundsRun, CrashedCheckpointsRun}
use Rattle.schedule.specs.RoundParts.{batched, owing, answering, answer_events, AreEntriesOf, SealsRun, AnswersRun}
use Rattle.schedule.proofs.Lists.{line_same}

module _ {A : Type 0} where
  pub run-append : (base : State) (es fs : List (Event A)) (w m w' : World A) → Run base w es m → Run base m fs w' → Run base w (es ++ fs) w'
  run-append base [] fs w m w' r s = subst (λ (x : World A). Run base x fs w') r s
  run-append base (e ∷ es) fs w m w' r s = (r.0, r.1, run-append base es fs r.0 m w' r.2 s)

  length-with : (xs : List (Line A)) (s : ℕ) (x : Line A) → length (with_line xs s x) ≡ length xs
  length-with xs zero x = refl
  length-with xs (suc k) x = length-set xs k x

  with_with : (xs : List (Line A)) (s : ℕ) (a b : Line A) → with_line (with_line xs s a) s b ≡ with_line xs s b
  with_with xs zero a b = refl
  with_with xs (suc k) a b = set-set xs k a b

  with_same : (xs : List (Line A)) (s : ℕ) → with_line xs s (line_of xs s) ≡ xs
  with_same xs zero = refl
  with_same xs (suc k) = set-get_or xs k (line [] 0)

  kept_at : (xs : List (Line A)) (k v : ℕ) → queues (set xs k (line (get_or xs k (line [] 0)).queue v)) ≡ queues xs
  kept_at [] k v = refl
  kept_at (x ∷ xs) zero v = refl
  kept_at (x ∷ xs) (suc k) v = ap (λ q. x.queue ∷ q) (kept_at xs k v)

  -- what waits does not change where a station sees more
  kept_queues : (xs : List (Line A)) (s v : ℕ) → queues (with_line xs s (line (line_of xs s).queue v)) ≡ queues xs
  kept_queues xs zero v = refl
  kept_queues xs (suc k) v = kept_at xs k v

  pub length-fed : (ps : List (Command A)) (xs : List (Line A)) → length (fed ps xs) ≡ length xs
  length-fed [] xs = refl
  length-fed (c ∷ cs) xs = length-with (fed cs xs) c.station (line (c ∷ (line_of (fed cs xs) c.station).queue) (line_of (fed cs xs) c.station).seen) ∙ length-fed cs xs

  seal_one : (base : State) (f : World A) (c : Command A) (ys : List (Line A)) → (nat_lt 0 c.station && nat_le c.station (length ys)) ≡ true →
      f.down ≡ false → f.in_flight ≡ None → f.owed ≡ [] → length f.batch < 64
      → Next base (at f (with_line ys c.station (line (c ∷ (line_of ys c.station).queue) (line_of ys c.station).seen))) (Seal c.station) (at (batched f (c ∷ [])) ys)
  seal_one base f c ys here up none paid room =
      let s = c.station in
      let old = line_of ys s in
      let full = line (c ∷ old.queue) old.seen in
      let zs = with_line ys s full in
      let is : line_of zs s ≡ full = line_same ys s full here in
      let inside : (nat_lt 0 s && nat_le s (length zs)) ≡ true = ap (λ n. nat_lt 0 s && nat_le s n) (length-with ys s full) ∙ here in
      let calm : (not f.down && is_none f.in_flight) ≡ true = ap (λ b. not b && is_none f.in_flight) up ∙ ap (λ o. is_none o) none in
      let free : is_empty f.owed ≡ true = ap (λ (o : List (Entry A)). is_empty o) paid in
      let some : not (is_empty (line_of zs s).queue) ≡ true = ap (λ (x : Line A). not (is_empty x.queue)) is in
      let less = test_by_less (length f.batch) 64 room in (
        and_is_true _ _ inside (and_is_true _ _ calm (and_is_true _ _ free (and_is_true _ _ less some))),
        sym (
            ap (λ (x : Line A). let r : World A = record f { lines = with_line zs s (line (drop 1 x.queue) x.seen); batch = f.batch ++ first_one x.queue } in r) is
            ∙ ap (λ (l : List (Line A)). let r : World A = record f { lines = l; batch = f.batch ++ c ∷ [] } in r) (with_with ys s full old ∙ with_same ys s)
            ),
      )

  pub seals_run : SealsRun A
  seals_run base [] f xs h up none paid small = ap (λ b. let r : World A = record f { lines = xs; batch = b } in r) (append-nil f.batch)
  seals_run base (c ∷ cs) f xs h up none paid small =
      let g = batched f (c ∷ []) in
      let one = length-append f.batch (c ∷ []) in
      let here : (nat_lt 0 c.station && nat_le c.station (length (fed cs xs))) ≡ true = ap (λ n. nat_lt 0 c.station && nat_le c.station n) (length-fed cs xs) ∙ h.0 in
      let rest = seals_run base cs g xs h.1 up none paid (omega arith) in
      let end : at (batched g cs) xs ≡ at (batched f (c ∷ cs)) xs = ap (λ b. let r : World A = record f { lines = xs; batch = b } in r) (append_assoc f.batch (c ∷ []) cs) in
      (at g (fed cs xs), seal_one base f c (fed cs xs) here up none paid (omega arith), subst (λ (x : World A). Run base (at g (fed cs xs)) (seals cs) x) end rest)

  same_answer_events : (t : State) (ps : List (Command A)) → answer_events (with_replies A t ps) ≡ answers_to ps
  same_answer_events t [] = refl
  same_answer_events t (c ∷ cs) = ap (λ es. Answer c.station ∷ es) (same_answer_events (next t c) cs)

  pub answers_run : AnswersRun A
  answers_run base [] f xs up h = (xs, refl, ap (λ a. let r : World A = record f { lines = xs; owed = []; answers = a } in r) (append-nil f.answers))
  answers_run base (v ∷ vs) f xs up h =
      let s = v.0.station in
      let all = f.published == f.durable in
      let same = test_by_same s s refl in
      let one = answered all (v ∷ []) in
      let sight = seen_after (line_of xs s).seen f.published one in
      let ys = with_line xs s (line (line_of xs s).queue sight) in
      let g : World A = record f { answers = f.answers ++ one } in
      let inside : AreEntriesOf ys vs = subst (λ n. AllByRecursion (λ (x : Entry A). (nat_lt 0 x.0.station && nat_le x.0.station n) ≡ true) vs)
      (sym (length-with xs s (line (line_of xs s).queue sight))) h.1 in
      let rest = answers_run base vs g ys up inside in
      let end : at (answering g vs) rest.0 ≡ at (answering f (v ∷ vs)) rest.0 =
      ap (λ a. let r : World A = record f { lines = rest.0; owed = []; answers = a } in r) (append_assoc f.answers one (answered all vs)) in (
        rest.0,
        rest.1 ∙ kept_queues xs s sight,
        (
          at (owing g vs) ys,
          (
            and_is_true _ _ h.0 (and_is_true _ _ (ap (λ b. not b) up) (ap (λ b. not (is_empty (cond b (v ∷ []) (first_of s vs)))) same)),
            sym (ap (λ b. let r : World A = record f {
              lines = with_line xs s (line (line_of xs s).queue (seen_after (line_of xs s).seen f.published (answered all (cond b (v ∷ []) (first_of s vs)))));
              owed = cond b vs (v ∷ without_first s vs);
              answers = f.answers ++ answered all (cond b (v ∷ []) (first_of s vs));
            } in r) same),
          ),
          subst (λ (x : World A). Run base (at (owing g vs) ys) (answer_events vs) x) end rest.2,
        ),
      )

  of_replies : (xs : List (Line A)) (ps : List (Command A)) (t : State) → AreOf xs ps → AreEntriesOf xs (with_replies A t ps)
  of_replies xs [] t h = tt
  of_replies xs (c ∷ cs) t h = (h.0, of_replies xs cs (next t c) h.1)

  -- a checkpoint before the commit
  room_run : (base : State) (checking made : Bool) (w : World A) → is_still w ≡ true → w.checking ≡ checking → Run base w (room_if checking made) (record w { checking = cond made false checking })
  room_run base checking false w still is = λ i. record w { checking = sym is i }
  room_run base false true w still is =
      let begun : World A = record w { checking = true } in
      (begun, (and_is_true _ _ still (ap (λ b. not b) is), refl), (record w { checking = false }, (refl, refl), refl))
  room_run base true true w still is =
      let given_up : World A = record w { checking = false } in
      let begun : World A = record w { checking = true } in
      (given_up, (is, refl), (begun, (and_is_true _ _ still refl, refl), (given_up, (refl, refl), refl)))

  -- one that begins or ends after the commit
  move_run : (base : State) (checking moved : Bool) (w : World A) → is_still w ≡ true → w.checking ≡ checking → Run base w (move_if checking moved) (record w { checking = under_way checking moved })
  move_run base checking false w still is = λ i. record w { checking = sym is i }
  move_run base false true w still is = (record w { checking = true }, (and_is_true _ _ still (ap (λ b. not b) is), refl), refl)
  move_run base true true w still is = (record w { checking = false }, (is, refl), refl)

  publish_run : (base : State) (shown : Bool) (w : World A) → is_still w ≡ true → Run base w (publish_if shown) (record w { published = cond shown w.durable w.published })
  publish_run base true w still = (record w { published = w.durable }, (still, refl), refl)
  publish_run base false w still = refl

  abbrev resting : World A → World A
  resting f = record f { down = false; in_flight = None; batch = []; owed = [] }

  -- from the begin of its commit to the end, with what was popped in the batch
  commit_run : (base : State) (f : World A) (how : Round) (c : Command A) (cs : List (Command A)) (xs : List (Line A)) → AreOf xs (c ∷ cs) →
      let r : World A = record (resting f) { published = f.durable } in (later : List (Line A)) × (queues later ≡ queues xs)
      × Run base (at (batched r (c ∷ cs)) xs) (CommitBegin ∷ CommitEnd ∷ move_if f.checking how.moved ++ (publish_if how.shown ++ answers_to (c ∷ cs))) (at (after_commit base r (c ∷ cs) how) later)
  commit_run base f how c cs xs h =
      let ps = c ∷ cs in
      let s = after base f.accepted in
      let r : World A = record (resting f) { published = f.durable } in
      let vs = with_replies A s ps in
      let log = f.accepted ++ taken s ps in
      let begun : World A = record r { batch = ps; accepted = log; in_flight = Some vs } in
      let ended : World A = record r { accepted = log; durable = length log; owed = vs } in
      let went : World A = record ended { checking = under_way f.checking how.moved } in
      let open' : World A = record r { accepted = log; durable = length log; published = cond how.shown (length log) f.durable; checking = under_way f.checking how.moved } in
      let last = answers_run base vs open' xs refl (of_replies xs ps s h) in
      let answer_from : Run base (at (owing open' vs) xs) (answers_to ps) (at (after_commit base r ps how) last.0) =
      subst (λ es. Run base (at (owing open' vs) xs) es (at (after_commit base r ps how) last.0)) (same_answer_events s ps) last.2 in
      let shown = run-append base (publish_if how.shown) (answers_to ps) (at went xs) (at (owing open' vs) xs) _ (publish_run base how.shown (at went xs) refl) answer_from in
      let moved = run-append base (move_if f.checking how.moved) (publish_if how.shown ++ answers_to ps) (at ended xs) (at went xs) _
      (move_run base f.checking how.moved (at ended xs) refl refl) shown in
      (last.0, last.1, (at begun xs, (test_by_same f.durable f.durable refl, refl), (at ended xs, (refl, refl), moved)))

  round_goes : (base : State) (f : World A) (how : Round) (c : Command A) (cs : List (Command A)) → length (c ∷ cs) ≤ 64 →
      Goes base (c ∷ cs) (events_of f.checking how (c ∷ cs)) (resting f) (after_round base (resting f) (c ∷ cs) how)
  round_goes base f how c cs small xs h =
      let ps = c ∷ cs in
      let fits : 0 + length ps ≤ 64 = omega arith in
      let r : World A = record (resting f) { published = f.durable } in
      let left : World A = record r { checking = left_under_way f.checking how } in
      let commit = commit_run base (record f { checking = left_under_way f.checking how }) how c cs xs h in
      let room = run-append base (room_if f.checking how.made_room) _ (at (batched r ps) xs) (at (batched left ps) xs) _
      (room_run base f.checking how.made_room (at (batched r ps) xs) refl refl) commit.2 in
      let sealed = run-append base (seals ps) _ (at r (fed ps xs)) (at (batched r ps) xs) _ (seals_run base ps r xs h refl refl refl fits) room in
      (commit.0, commit.1, (at r (fed ps xs), (refl, refl), sealed))

  is_resting : (f : World A) → IsIdle f → resting f ≡ f
  is_resting f h = λ i. record f { down = sym h.up i; in_flight = sym h.none_in_flight i; batch = sym h.none_sealed i; owed = sym h.none_owed i }

  pub rounds_run : RoundsRun A
  rounds_run base f how c cs h small =
      subst (λ (g : World A). Goes base (c ∷ cs) (events_of g.checking how (c ∷ cs)) g (after_round base g (c ∷ cs) how)) (is_resting f h) (round_goes base f how c cs small)

  idle_goes : (base : State) (f : World A) (shown : Bool) → Goes base [] (publish_if shown) (resting f) (after_idle_round (resting f) shown)
  idle_goes base f shown xs h = (xs, refl, publish_run base shown (at (resting f) xs) refl)

  pub idle_rounds_run : IdleRoundsRun A
  idle_rounds_run base f shown h = subst (λ (g : World A). Goes base [] (publish_if shown) g (after_idle_round g shown)) (is_resting f h) (idle_goes base f shown)

  -- a commit that stops, with what was popped in the batch
  stop_run : (base : State) (f : World A) (c : Command A) (cs : List (Command A)) (xs : List (Line A)) (count : ℕ) → count ≤ length (records_after base f (c ∷ cs))
      → let r : World A = record (resting f) { published = f.durable } in
      Run base (at (batched r (c ∷ cs)) xs) (CommitBegin ∷ Crash count ∷ []) (at (after_stop r (accepted_after base f (c ∷ cs)) (take count (records_after base f (c ∷ cs)))) (emptied xs))
  stop_run base f c cs xs count few =
      let ps = c ∷ cs in
      let s = after base f.accepted in
      let r : World A = record (resting f) { published = f.durable } in
      let begun : World A = record r { batch = ps; accepted = f.accepted ++ taken s ps; in_flight = Some (with_replies A s ps) } in
      let stopped = after_stop r (accepted_after base f ps) (take count (records_after base f ps)) in
      (at begun xs, (test_by_same f.durable f.durable refl, refl), (at stopped (emptied xs), (test_by_le count (length (cut (taken s ps))) few, refl), refl))

  crash_goes : (base : State) (f : World A) (made_room : Bool) (c : Command A) (cs : List (Command A)) (count : ℕ) → length (c ∷ cs) ≤ 64 → count ≤ length (records_after base f (c ∷ cs))
      → GoesDown base (c ∷ cs) (stopped_commit f.checking made_room (c ∷ cs) count) (resting f) (after_stop (resting f) (accepted_after base f (c ∷ cs)) (take count (records_after base f (c ∷ cs))))
  crash_goes base f made_room c cs count small few xs h =
      let ps = c ∷ cs in
      let fits : 0 + length ps ≤ 64 = omega arith in
      let r : World A = record (resting f) { published = f.durable } in
      let left : World A = record f { checking = cond made_room false f.checking } in
      let left_r : World A = record r { checking = cond made_room false f.checking } in
      let stop = stop_run base left c cs xs count few in
      let room = run-append base (room_if f.checking made_room) _ (at (batched r ps) xs) (at (batched left_r ps) xs) _ (room_run base f.checking made_room (at (batched r ps) xs) refl refl) stop in
      let sealed = run-append base (seals ps) _ (at r (fed ps xs)) (at (batched r ps) xs) _ (seals_run base ps r xs h refl refl refl fits) room in
      (emptied xs, refl, (at r (fed ps xs), (refl, refl), sealed))

  pub crashed_rounds_run : CrashedRoundsRun A
  crashed_rounds_run base f made_room c cs count h small few =
      subst (λ (g : World A). GoesDown base (c ∷ cs) (stopped_commit g.checking made_room (c ∷ cs) count) g
      (after_stop g (accepted_after base g (c ∷ cs)) (take count (records_after base g (c ∷ cs))))) (is_resting f h)
      (crash_goes base f made_room c cs count small few)

  -- a checkpoint that is under way is given up, and another one stops
  abbrev stopped : World A → World A
  stopped w = record w { lines = emptied w.lines; batch = []; accepted = take w.durable w.accepted ++ []; in_flight = None; owed = []; checking = false; down = true }

  abbrev calm : World A → Bool → World A
  calm w checking = record w { down = false; in_flight = None; checking = checking }

  new_stop_run : (base : State) (w : World A) → Run base (calm w false) (CheckpointBegin ∷ Crash 0 ∷ []) (stopped w)
  new_stop_run base w = (calm w true, (refl, refl), (stopped w, (refl, refl), refl))

  checkpoint_stop_run : (base : State) (checking : Bool) (w : World A) → Run base (calm w checking) (give_up checking ++ (CheckpointBegin ∷ Crash 0 ∷ [])) (stopped w)
  checkpoint_stop_run base false w = new_stop_run base w
  checkpoint_stop_run base true w = (calm w false, (refl, refl), new_stop_run base w)

  checkpoint_goes : (base : State) (f : World A) (ps : List (Command A)) → length ps ≤ 64 → GoesDown base ps (stopped_checkpoint f.checking ps) (resting f) (after_stop (resting f) f.accepted [])
  checkpoint_goes base f ps small xs h =
      let fits : 0 + length ps ≤ 64 = omega arith in
      let r : World A = record (resting f) { published = f.durable } in
      let stop = checkpoint_stop_run base f.checking (at (batched r ps) xs) in
      let sealed = run-append base (seals ps) _ (at r (fed ps xs)) (at (batched r ps) xs) _ (seals_run base ps r xs h refl refl refl fits) stop in
      (emptied xs, refl, (at r (fed ps xs), (refl, refl), sealed))

  pub crashed_checkpoints_run : CrashedCheckpointsRun A
  crashed_checkpoints_run base f ps h small =
      subst (λ (g : World A). GoesDown base ps (stopped_checkpoint g.checking ps) g (after_stop g g.accepted [])) (is_resting f h) (checkpoint_goes base f ps small)
