-- How a round goes in the core.
use Rattle.std.specs.declared.alloc.Global.{Global}
use Rattle.std.proofs.Common.{◌≡◌, inl, inr, ℕ, ◌<◌, ◌≤◌, Bool, true, false, not, cond, List, [], ◌∷◌, ◌++◌, length, take, refl, ap, sym, ◌∙◌, subst, arith, length-append, length-take}
use Rattle.std.proofs.lemmas.List.{append-nil, take_all, take_at}
use Rattle.base.proofs.Numbers.{same_test, less_not_same}
use Rattle.centre_core.specs.Asked.{Asked}
use Rattle.centre_core.specs.State.{State}
use Rattle.centre_core.specs.History.{after}
use Rattle.centre_core.specs.Batches.{taken, with_replies}
use Rattle.schedule.specs.declared.event.Event.{Event}
use Rattle.schedule.specs.declared.event.Event.TheVariants.{Publish}
use Rattle.schedule.specs.World.{World, Line, Entry}
use Rattle.schedule.specs.Next.{answered, Run}
use Rattle.schedule.specs.Rounds.{Round, Goes, GoesDown, IsIdle, at, events_of, after_round, room_if, move_if, under_way, left_under_way, stopped_commit, stopped_checkpoint, after_stop}
use Rattle.schedule.proofs.Rounding.{rounds_run, crashed_rounds_run, crashed_checkpoints_run}
use Rattle.flusher.specs.Stages.{AreOwn, Sent, Stage, stage, HasRun, world_of, entries_of}
use Rattle.flusher.proofs.Own.{own_both, own_move, own_room, own_round, own_stopped, own_stopped_before}

abbrev G : Type 0
G = Asked Global

idle : (list durable : List G) (checking : Bool) (a : List (Entry Global)) → IsIdle (world_of (stage list durable checking false) a)
idle list durable checking a = record { up = refl; none_in_flight = refl; none_sealed = refl; none_owed = refl }

-- how a checkpoint moves from under way or not to under way or not
abbrev moves : Bool → Bool → Bool
moves was true = not was
moves was false = was

moved_to : (was now : Bool) → under_way was (moves was now) ≡ now
moved_to true true = refl
moved_to true false = refl
moved_to false true = refl
moved_to false false = refl

-- so after a checkpoint that made room, or none
abbrev how_of : Bool → Bool → Bool → Bool → Round
how_of made_room was now shown = record { made_room = made_room; moved = moves (cond made_room false was) now; shown = shown }

arrives : (made_room was now shown : Bool) → under_way (left_under_way was (how_of made_room was now shown)) (how_of made_room was now shown).moved ≡ now
arrives made_room was now shown = moved_to (cond made_room false was) now

length-first : (n : ℕ) (xs : List G) → length xs ≤ 64 → length (take n xs) ≤ 64
length-first n xs le = omega (arith, length-take n xs)

-- ---- a round that popped nothing

-- what is durable is published; a checkpoint may be made, and one may begin or end
abbrev idle_events : Bool → Round → List (Event Global)
idle_events checking how = Publish ∷ room_if checking how.made_room ++ move_if (left_under_way checking how) how.moved

own_idle : (checking : Bool) (how : Round) → AreOwn (idle_events checking how)
own_idle checking how =
    let left = left_under_way checking how in
    (refl, own_both (room_if checking how.made_room) (move_if left how.moved) (own_room checking how.made_room) (own_move left how.moved))

moved_run : (base : State) (checking moved : Bool) (list durable : List G) (a : List (Entry Global)) (xs : List (Line Global))
    → Run base (at (world_of (stage list durable checking false) a) xs) (move_if checking moved) (at (world_of (stage list durable (under_way checking moved) false) a) xs)
moved_run base false false list durable a xs = refl
moved_run base true false list durable a xs = refl
moved_run base false true list durable a xs = (at (world_of (stage list durable true false) a) xs, (refl, refl), refl)
moved_run base true true list durable a xs = (at (world_of (stage list durable false false) a) xs, (refl, refl), refl)

after_room_run : (base : State) (checking made_room moved : Bool) (list durable : List G) (a : List (Entry Global)) (xs : List (Line Global))
    → Run base (at (world_of (stage list durable checking false) a) xs) (room_if checking made_room ++ move_if (cond made_room false checking) moved)
    (at (world_of (stage list durable (under_way (cond made_room false checking) moved) false) a) xs)
after_room_run base false false moved list durable a xs = moved_run base false moved list durable a xs
after_room_run base true false moved list durable a xs = moved_run base true moved list durable a xs
after_room_run base false true moved list durable a xs =
    let w : Bool → World Global = λ b. at (world_of (stage list durable b false) a) xs in
    (w true, (refl, refl), (w false, (refl, refl), moved_run base false moved list durable a xs))
after_room_run base true true moved list durable a xs =
    let w : Bool → World Global = λ b. at (world_of (stage list durable b false) a) xs in
    (w false, (refl, refl), (w true, (refl, refl), (w false, (refl, refl), moved_run base false moved list durable a xs)))

idle_goes : (base : State) (checking : Bool) (how : Round) (list durable : List G) (a : List (Entry Global))
    → Goes base [] (idle_events checking how) (world_of (stage list durable checking false) a) (world_of (stage durable durable (under_way (left_under_way checking how) how.moved) false) a)
idle_goes base checking how list durable a xs h =
    (xs, refl, (at (world_of (stage durable durable checking false) a) xs, (refl, refl), after_room_run base checking how.made_room how.moved durable durable a xs))

-- a round in which nothing was done
pub rested : (base : State) (f : Stage) (cmds : List G) (answers : List Sent) → entries_of answers ≡ [] → HasRun base f f cmds answers
rested base f cmds answers none = record {
  reached = 0;
  events = [];
  own = tt;
  run = inl (λ a xs h. (xs, refl, λ i. at (world_of f ((ap (λ e. a ++ e) none ∙ append-nil a) i)) xs));
}

-- a round that list, and then committed nothing; a checkpoint may have been made
pub only_published : (base : State) (list durable cmds : List G) (made_room was now : Bool) (answers : List Sent) → entries_of answers ≡ [] →
    HasRun base (stage list durable was false) (stage durable durable now false) cmds answers
only_published base list durable cmds made_room was now answers none =
    let how = how_of made_room was now true in
    record {
      reached = 0;
      events = idle_events was how;
      own = own_idle was how;
      run = inl (λ a.
          let end : world_of (stage durable durable (under_way (left_under_way was how) how.moved) false) a ≡ world_of (stage durable durable now false) (a ++ entries_of answers) =
          λ i. world_of (stage durable durable (arrives made_room was now true i) false) ((sym (append-nil a) ∙ ap (λ e. a ++ e) (sym none)) i) in
          subst (λ (w : World Global). Goes base [] (idle_events was how) (world_of (stage list durable was false) a) w) end (idle_goes base was how list durable a));
    }

-- ---- a round that committed some

came : (base : State) (log : List G) (c : G) (cs : List G) (all made_room was now : Bool) (a new : List (Entry Global)) →
    (all ≡ false → 0 < length (taken (after base log) (c ∷ cs))) → new ≡ answered all (with_replies Global (after base log) (c ∷ cs))
    → after_round base (world_of (stage [] log was false) a) (c ∷ cs) (how_of made_room was now all)
    ≡ world_of (stage (cond all (log ++ taken (after base log) (c ∷ cs)) log) (log ++ taken (after base log) (c ∷ cs)) now false) (a ++ new)
came base log c cs true made_room was now a new some is =
    let l = log ++ taken (after base log) (c ∷ cs) in
    λ i. world_of (stage l l (arrives made_room was now true i) false) (a ++ (ap (λ b. answered b (with_replies Global (after base log) (c ∷ cs))) (same_test (length l)) ∙ sym is) i)
came base log c cs false made_room was now a new some is =
    let ts = taken (after base log) (c ∷ cs) in
    let l = log ++ ts in
    let more = some refl in
    let less : length log < length l = omega (arith, length-append log ts, more) in
    λ i. world_of (stage log l (arrives made_room was now false i) false)
    (a ++ (ap (λ b. answered b (with_replies Global (after base log) (c ∷ cs))) (less_not_same (length log) (length l) less) ∙ sym is) i)

abbrev RunsTo : State → Stage → Stage → List G → List (Entry Global) → Type 0
RunsTo base f g ys new = (es : List (Event Global)) × AreOwn es × ((a : List (Entry Global)) → Goes base ys es (world_of f a) (world_of g (a ++ new)))

ran_by : (base : State) (list log : List G) (all : Bool) (ys : List G) (made_room was now : Bool) (new : List (Entry Global)) → length ys ≤ 64 → (all ≡ false → 0 < length (taken (after base log) ys))
    → new ≡ answered all (with_replies Global (after base log) ys)
    → RunsTo base (stage list log was false) (stage (cond all (log ++ taken (after base log) ys) log) (log ++ taken (after base log) ys) now false) ys new
ran_by base list log true [] made_room was now new small some is =
    let how = how_of made_room was now true in (
      idle_events was how,
      own_idle was how,
      λ a.
          let end : world_of (stage log log (under_way (left_under_way was how) how.moved) false) a ≡ world_of (stage (log ++ []) (log ++ []) now false) (a ++ new) =
          λ i. world_of (stage (sym (append-nil log) i) (sym (append-nil log) i) (arrives made_room was now true i) false) ((sym (append-nil a) ∙ ap (λ e. a ++ e) (sym is)) i) in
          subst (λ (w : World Global). Goes base [] (idle_events was how) (world_of (stage list log was false) a) w) end (idle_goes base was how list log a),
    )
ran_by base list log false [] made_room was now new small some is = let none = some refl in absurd (omega arith)
ran_by base list log all (c ∷ cs) made_room was now new small some is =
    let how = how_of made_room was now all in
    let f = stage list log was false in (
      events_of was how (c ∷ cs),
      own_round was how (c ∷ cs),
      λ a. subst (λ (w : World Global). Goes base (c ∷ cs) (events_of was how (c ∷ cs)) (world_of f a) w)
          (came base log c cs all made_room was now a new some is) (rounds_run base (world_of f a) how c cs (idle list log was a) small),
    )

-- a round whose commit was answered
pub ran : (base : State) (list log : List G) (all : Bool) (cmds : List G) (n : ℕ) (made_room was now : Bool) (answers : List Sent) →
    length cmds ≤ 64 → (all ≡ false → 0 < length (taken (after base log) (take n cmds)))
    → entries_of answers ≡ answered all (with_replies Global (after base log) (take n cmds))
    → HasRun base (stage list log was false) (stage (cond all (log ++ taken (after base log) (take n cmds)) log) (log ++ taken (after base log) (take n cmds)) now false) cmds answers
ran base list log all cmds n made_room was now answers small some is =
    let r = ran_by base list log all (take n cmds) made_room was now (entries_of answers) (length-first n cmds small) some is in
    record { reached = n; events = r.0; own = r.1; run = inl r.2 }

-- ---- a round that the disk stops

whole : (base : State) (log ps : List G) → take (length log) (log ++ ps) ++ [] ≡ log
whole base log ps = append-nil (take (length log) (log ++ ps)) ∙ take_at log ps (length log) refl

-- in its commit: as the flusher knows it, no record came through
crashed : (base : State) (list log : List G) (c : G) (cs : List G) (made_room was : Bool) (answers : List Sent) → length (c ∷ cs) ≤ 64 →
    entries_of answers ≡ [] → HasRun base (stage list log was false) (stage log log false true) (c ∷ cs) answers
crashed base list log c cs made_room was answers small none =
    let ps = c ∷ cs in
    let es = stopped_commit was made_room ps 0 in
    record {
      reached = length ps;
      events = es;
      own = own_stopped was made_room ps 0;
      run = inr (record {
        up = refl;
        down = refl;
        none = none;
        stops = λ a.
            let f = world_of (stage list log was false) a in
            let end : after_stop f (log ++ taken (after base log) ps) [] ≡ world_of (stage log log false true) a = λ i.
            record (world_of (stage log log false true) a) { accepted = whole base log (taken (after base log) ps) i } in
            subst (λ (l : List G). GoesDown base l es f (world_of (stage log log false true) a)) (sym (take_all (length ps) ps (omega arith)))
            (subst (λ (w : World Global). GoesDown base ps es f w) end (crashed_rounds_run base f made_room c cs 0 (idle list log was a) small (omega arith)));
      });
    }

-- in the checkpoint before it
crashed_before : (base : State) (list log cmds : List G) (was : Bool) (answers : List Sent) → length cmds ≤ 64 → entries_of answers ≡ [] →
    HasRun base (stage list log was false) (stage log log false true) cmds answers
crashed_before base list log cmds was answers small none =
    let es = stopped_checkpoint was cmds in
    record {
      reached = length cmds;
      events = es;
      own = own_stopped_before was cmds;
      run = inr (record {
        up = refl;
        down = refl;
        none = none;
        stops = λ a.
            let f = world_of (stage list log was false) a in
            let end : after_stop f log [] ≡ world_of (stage log log false true) a = λ i.
            record (world_of (stage log log false true) a)
            { accepted = (append-nil (take (length log) log) ∙ take_all (length log) log (omega arith)) i } in
            subst (λ (l : List G). GoesDown base l es f (world_of (stage log log false true) a)) (sym (take_all (length cmds) cmds (omega arith)))
            (subst (λ (w : World Global). GoesDown base cmds es f w) end (crashed_checkpoints_run base f cmds (idle list log was a) small));
      });
    }

pub stopped : (base : State) (list log cmds : List G) (in_checkpoint made_room was : Bool) (answers : List Sent) → (cmds ≡ [] → ⊥) →
    length cmds ≤ 64 → entries_of answers ≡ [] → HasRun base (stage list log was false) (stage log log false true) cmds answers
stopped base list log cmds true made_room was answers some small none = crashed_before base list log cmds was answers small none
stopped base list log [] false made_room was answers some small none = absurd (some refl)
stopped base list log (c ∷ cs) false made_room was answers some small none = crashed base list log c cs made_room was answers small none
