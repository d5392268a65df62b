-- A round of the flusher: which events it is, and the world after it. It holds for all queues after the popped commands.
use Rattle.std.specs.Prelude.{◌≡◌, ◌==◌, ◌≤◌, ℕ, Bool, true, false, not, cond, List, [], ◌∷◌, ◌++◌, length, take, map, None}
use Rattle.std.specs.List.{AllByRecursion}
use Rattle.centre_core.specs.declared.command.Command.{Command}
use Rattle.centre_core.specs.State.{State}
use Rattle.centre_core.specs.History.{after}
use Rattle.centre_core.specs.Batches.{with_replies, taken}
use Rattle.schedule.specs.declared.event.Event.{Event}
use Rattle.schedule.specs.declared.event.Event.TheVariants.{Seal, CommitBegin, CommitEnd, Publish, Answer, CheckpointBegin, CheckpointEnd, Crash}
use Rattle.schedule.specs.World.{World, Line, line, line_of, with_line}
use Rattle.schedule.specs.Next.{Run, is_place, all_of, cut, emptied, answered}

-- how a round went: whether a checkpoint was made before its commit, whether one began or ended with the commit, and whether
-- what it committed was published
pub record Round : Type 0 where
  pub made_room : Bool
  pub moved : Bool
  pub shown : Bool

-- whether a checkpoint is under way after one began or ended (moved), or neither
abbrev pub under_way : Bool → Bool → Bool
under_way checking moved = cond moved (not checking) checking

-- whether a checkpoint is under way when the commit of a round begins
abbrev pub left_under_way : Bool → Round → Bool
left_under_way checking how = cond how.made_room false checking

module _ {A : Type 0} where
  -- the world with these lines
  abbrev pub at : World A → List (Line A) → World A
  at f xs = record f { lines = xs }

  -- a line with this command before its queue
  abbrev pub with_first : Command A → Line A → Line A
  with_first c old = line (c ∷ old.queue) old.seen

  -- the lines with these commands before their queues
  abbrev pub fed : List (Command A) → List (Line A) → List (Line A)
  fed [] xs = xs
  fed (c ∷ cs) xs = with_line (fed cs xs) c.station (with_first c (line_of (fed cs xs) c.station))

  -- each command is of one of these stations
  abbrev pub AreOf : List (Line A) → List (Command A) → Type 0
  AreOf xs ps = AllByRecursion (λ (c : Command A). is_place xs c.station ≡ true) ps

  -- the queues of the lines
  abbrev pub queues : List (Line A) → List (List (Command A))
  queues xs = map (λ x. x.queue) xs

  -- with any queues after these commands: the events pop these and lead from f to g, and the queues stay
  abbrev pub Goes : State → List (Command A) → List (Event A) → World A → World A → Type 0
  Goes base popped es f g =
      (xs : List (Line A)) → AreOf xs popped
      → (later : List (Line A)) × (queues later ≡ queues xs) × Run base (at f (fed popped xs)) es (at g later)

  -- the same for a world g that is down: its queues are empty
  abbrev pub GoesDown : State → List (Command A) → List (Event A) → World A → World A → Type 0
  GoesDown base popped es f g =
      (xs : List (Line A)) → AreOf xs popped
      → (later : List (Line A)) × (queues later ≡ queues (emptied xs)) × Run base (at f (fed popped xs)) es (at g later)

  -- the flusher is between two rounds: not down, and nothing in flight, sealed or owed. A checkpoint may be under way, and less
  -- may be published than is durable
  pub record IsIdle (f : World A) : Type 0 where
    pub up : f.down ≡ false
    pub none_in_flight : f.in_flight ≡ None
    pub none_sealed : f.batch ≡ []
    pub none_owed : f.owed ≡ []

  -- the events that seal each command
  abbrev pub seals : List (Command A) → List (Event A)
  seals [] = []
  seals (c ∷ cs) = Seal c.station ∷ seals cs

  -- the events that answer each command
  abbrev pub answers_to : List (Command A) → List (Event A)
  answers_to [] = []
  answers_to (c ∷ cs) = Answer c.station ∷ answers_to cs

  -- a checkpoint that is under way is given up
  abbrev pub give_up : Bool → List (Event A)
  give_up true = CheckpointEnd ∷ []
  give_up false = []

  -- a checkpoint is made, or none; one that was under way is given up first
  abbrev pub room_if : Bool → Bool → List (Event A)
  room_if checking false = []
  room_if checking true = give_up checking ++ (CheckpointBegin ∷ CheckpointEnd ∷ [])

  -- a checkpoint begins, or the one under way ends; or neither
  abbrev pub move_if : Bool → Bool → List (Event A)
  move_if checking false = []
  move_if false true = CheckpointBegin ∷ []
  move_if true true = CheckpointEnd ∷ []

  -- what is durable is published, or it is not
  abbrev pub publish_if : Bool → List (Event A)
  publish_if true = Publish ∷ []
  publish_if false = []

  -- what is sealed is committed; after that a checkpoint may begin or end
  abbrev pub commit_of : Bool → Round → List (Event A)
  commit_of checking how = CommitBegin ∷ CommitEnd ∷ move_if checking how.moved

  -- what was committed is published or not, and answered
  abbrev pub shown_of : Round → List (Command A) → List (Event A)
  shown_of how popped = publish_if how.shown ++ answers_to popped

  -- the events of a round that popped these commands: what was durable before is published first
  abbrev pub events_of : Bool → Round → List (Command A) → List (Event A)
  events_of checking how popped =
      Publish ∷ seals popped ++ (room_if checking how.made_room ++ (commit_of (left_under_way checking how) how ++ shown_of how popped))

  -- the accepted commands after a round that popped these
  abbrev pub accepted_after : State → World A → List (Command A) → List (Command A)
  accepted_after base f popped = f.accepted ++ taken (after base f.accepted) popped

  -- the world after the commit of a round that popped these commands: all is published, or else what was durable before
  abbrev pub after_commit : State → World A → List (Command A) → Round → World A
  after_commit base f popped how =
      let all = length (accepted_after base f popped) in
      let published = cond how.shown all f.durable in
      record f {
        accepted = accepted_after base f popped;
        durable = all;
        published = published;
        answers = f.answers ++ answered (published == all) (with_replies A (after base f.accepted) popped);
        checking = under_way f.checking how.moved;
      }

  -- the world after the whole round
  abbrev pub after_round : State → World A → List (Command A) → Round → World A
  after_round base f popped how = after_commit base (record f { checking = left_under_way f.checking how }) popped how

  -- the world after a round that popped nothing
  abbrev pub after_idle_round : World A → Bool → World A
  after_idle_round f shown = record f { published = cond shown f.durable f.published }

  -- the events of a round whose commit stops; so many of its records reach the disk
  abbrev pub stopped_commit : Bool → Bool → List (Command A) → ℕ → List (Event A)
  stopped_commit checking made_room popped count = Publish ∷ seals popped ++ (room_if checking made_room ++ (CommitBegin ∷ Crash count ∷ []))

  -- the events of a round that stops in the checkpoint before its commit
  abbrev pub stopped_checkpoint : Bool → List (Command A) → List (Event A)
  stopped_checkpoint checking popped = Publish ∷ seals popped ++ (give_up checking ++ (CheckpointBegin ∷ Crash 0 ∷ []))

  -- the records of the commit of a round that popped these commands
  abbrev pub records_after : State → World A → List (Command A) → List (List (Command A))
  records_after base f popped = cut (taken (after base f.accepted) popped)

  -- the world after a stop: down; accepted are the durable ones of these commands and what reached the disk; the durable are published
  abbrev pub after_stop : World A → List (Command A) → List (List (Command A)) → World A
  after_stop f accepted through = record f { accepted = take f.durable accepted ++ all_of through; published = f.durable; checking = false; down = true }

module _ (A : Type 0) where
  -- from an idle world, a round of 1 to 64 commands is a run
  abbrev pub RoundsRun : Type 0
  RoundsRun = (base : State) (f : World A) (how : Round) (c : Command A) (cs : List (Command A)) → IsIdle f → length (c ∷ cs) ≤ 64
      → Goes base (c ∷ cs) (events_of f.checking how (c ∷ cs)) f (after_round base f (c ∷ cs) how)

  -- a round that popped nothing publishes what is durable, or does nothing
  abbrev pub IdleRoundsRun : Type 0
  IdleRoundsRun = (base : State) (f : World A) (shown : Bool) → IsIdle f → Goes base [] (publish_if shown) f (after_idle_round f shown)

  -- a round whose commit stops is a run to a world that is down: accepted there are what was durable, and so many of the
  -- commit's records
  abbrev pub CrashedRoundsRun : Type 0
  CrashedRoundsRun = (base : State) (f : World A) (made_room : Bool) (c : Command A) (cs : List (Command A)) (count : ℕ)
      → IsIdle f → length (c ∷ cs) ≤ 64 → count ≤ length (records_after base f (c ∷ cs))
      → GoesDown base (c ∷ cs) (stopped_commit f.checking made_room (c ∷ cs) count) f
      (after_stop f (accepted_after base f (c ∷ cs)) (take count (records_after base f (c ∷ cs))))

  -- so is a round that stops in the checkpoint before its commit: accepted there is what was durable
  abbrev pub CrashedCheckpointsRun : Type 0
  CrashedCheckpointsRun = (base : State) (f : World A) (popped : List (Command A)) → IsIdle f → length popped ≤ 64
      → GoesDown base popped (stopped_checkpoint f.checking popped) f (after_stop f f.accepted [])

  -- two rounds, one after the other, are one run that pops the commands of both
  abbrev pub RoundsFollow : Type 0
  RoundsFollow = (base : State) (ps qs : List (Command A)) (es fs : List (Event A)) (f g h : World A)
      → Goes base ps es f g → Goes base qs fs g h → Goes base (ps ++ qs) (es ++ fs) f h

  -- so are two rounds whose second one stops
  abbrev pub StopsFollow : Type 0
  StopsFollow = (base : State) (ps qs : List (Command A)) (es fs : List (Event A)) (f g h : World A)
      → Goes base ps es f g → GoesDown base qs fs g h → GoesDown base (ps ++ qs) (es ++ fs) f h
