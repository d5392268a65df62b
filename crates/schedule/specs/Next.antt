-- Which events may come next, and what they do.
use Rattle.std.specs.Prelude.{◌≡◌, ◌==◌, Bool, true, false, not, cond, ◌&&◌, nat_lt, nat_le, is_none, is_some, option_map}
use Rattle.std.specs.Prelude.{find, reverse, List, [], ◌∷◌, ◌++◌, length, take, drop, map, Option, Some, None}
use Rattle.registration.specs.Numbers.{Station}
use Rattle.mailbox.specs.Numbers.{Count}
use Rattle.centre_core.specs.declared.command.Command.{Command}
use Rattle.centre_core.specs.declared.reply.Reply.{Reply}
use Rattle.centre_core.specs.declared.reply.Reply.TheVariants.{Accepted, Kept, Refused}
use Rattle.centre_core.specs.State.{State}
use Rattle.centre_core.specs.History.{is_acceptance, after}
use Rattle.centre_core.specs.Batches.{with_replies, accepted_of, taken}
use Rattle.schedule.specs.declared.event.Event.{Event}
use Rattle.schedule.specs.declared.event.Event.TheVariants.{Submit, Seal, CommitBegin, CommitEnd, Publish, Answer, Read}
use Rattle.schedule.specs.declared.event.Event.TheVariants.{CheckpointBegin, CheckpointEnd, Crash, Reopen}
use Rattle.schedule.specs.declared.fault.StepFault.{StepFault}
use Rattle.schedule.specs.declared.fault.StepFault.TheVariants.{NotNow, NoMemory}
use Rattle.schedule.specs.World.{World, Line, line, with_line, queue_of, seen_of, Entry}

-- whether a list is empty
abbrev pub is_empty : {X : Type 0} → List X → Bool
is_empty [] = true
is_empty (x ∷ xs) = false

-- the first of a list, as a list of one; of an empty list the empty list
abbrev pub first_one : {X : Type 0} → List X → List X
first_one [] = []
first_one (x ∷ xs) = x ∷ []

-- whether there is a line of this station
abbrev pub is_place : {A : Type 0} → List (Line A) → Station → Bool
is_place lines s = nat_lt 0 s && nat_le s (length lines)

module _ {A : Type 0} where
  -- the records of a commit: one with all accepted commands, or none if nothing was accepted
  abbrev pub cut : List (Command A) → List (List (Command A))
  cut [] = []
  cut (c ∷ cs) = (c ∷ cs) ∷ []

  -- the commands of records, in order
  abbrev pub all_of : List (List (Command A)) → List (Command A)
  all_of [] = []
  all_of (r ∷ rs) = r ++ all_of rs

  -- the records of the commit in flight
  abbrev pub records_of : Option (List (Entry A)) → List (List (Command A))
  records_of None = []
  records_of (Some xs) = cut (accepted_of xs)

  -- the batch of the commit in flight with its replies; nothing where there is no such commit
  abbrev pub replies_of : Option (List (Entry A)) → List (Entry A)
  replies_of None = []
  replies_of (Some xs) = xs

  -- the first entry of a station, as a list of one; nothing where the station has none
  abbrev pub first_of : Station → List (Entry A) → List (Entry A)
  first_of s [] = []
  first_of s (x ∷ xs) = cond (x.0.station == s) (x ∷ []) (first_of s xs)

  -- the entries without the first one of a station
  abbrev pub without_first : Station → List (Entry A) → List (Entry A)
  without_first s [] = []
  without_first s (x ∷ xs) = cond (x.0.station == s) xs (x ∷ without_first s xs)

  -- the answer that is given for a reply: an acceptance is answered as one only if all that is durable is published
  abbrev pub answer_from : Bool → Reply A → Reply A
  answer_from all (Accepted n p) = cond all (Accepted n p) (Kept n p)
  answer_from all (Kept n p) = Kept n p
  answer_from all (Refused r) = Refused r

  -- entries, each with its answer in place of its reply
  abbrev pub answered : Bool → List (Entry A) → List (Entry A)
  answered all [] = []
  answered all (x ∷ xs) = (x.0, answer_from all x.1) ∷ answered all xs

  -- how many commands a station has seen after this answer
  abbrev pub seen_after : Count → Count → List (Entry A) → Count
  seen_after seen published [] = seen
  seen_after seen published (x ∷ xs) = cond (is_acceptance x.1) published seen

  -- the last reply to a station among these
  abbrev pub last_answer : Station → List (Entry A) → Option (Reply A)
  last_answer s xs = option_map (λ x. x.1) (find (λ x. x.0.station == s) (reverse xs))

  -- the lines with nothing queued
  abbrev pub emptied : List (Line A) → List (Line A)
  emptied xs = map (λ x. line [] x.seen) xs

  -- the lines with nothing seen
  abbrev pub unread : List (Line A) → List (Line A)
  unread xs = map (λ x. line x.queue 0) xs

  -- whether there is a station of this number
  abbrev pub is_station : World A → Station → Bool
  is_station w s = is_place w.lines s

  -- not down, and no commit in flight
  abbrev pub is_still : World A → Bool
  is_still w = not w.down && is_none w.in_flight

  -- nothing is owed, the batch is not full, and the station's queue is not empty
  abbrev pub can_seal : World A → Station → Bool
  can_seal w s = is_empty w.owed && (nat_lt (length w.batch) 64 && not (is_empty (queue_of w s)))

  -- the batch is not empty, and all that is durable is published
  abbrev pub can_commit : World A → Bool
  can_commit w = not (is_empty w.batch) && (w.published == w.durable)

  -- the condition of an event
  abbrev pub may : World A → Event A → Bool
  may w (Submit s c) = is_station w s && (not w.down && (c.station == s))
  may w (Seal s) = is_station w s && (is_still w && can_seal w s)
  may w CommitBegin = is_still w && can_commit w
  may w CommitEnd = is_some w.in_flight
  may w Publish = is_still w
  may w (Answer s) = is_station w s && (not w.down && not (is_empty (first_of s w.owed)))
  may w (Read s) = is_station w s
  may w CheckpointBegin = is_still w && not w.checking
  may w CheckpointEnd = w.checking
  may w (Crash k) = not w.down && nat_le k (length (records_of w.in_flight))
  may w Reopen = w.down

  -- the first entry that is owed to a station, as it is answered now
  abbrev pub answer_to : World A → Station → List (Entry A)
  answer_to w s = answered (w.published == w.durable) (first_of s w.owed)

  -- the effect of an event, over the base from which the accepted commands are counted
  abbrev pub effect : State → World A → Event A → World A
  effect base w (Submit s c) = record w { lines = with_line w.lines s (line (queue_of w s ++ c ∷ []) (seen_of w s)) }
  effect base w (Seal s) = record w {
    lines = with_line w.lines s (line (drop 1 (queue_of w s)) (seen_of w s));
    batch = w.batch ++ first_one (queue_of w s);
  }
  effect base w CommitBegin = record w {
    accepted = w.accepted ++ taken (after base w.accepted) w.batch;
    in_flight = Some (with_replies A (after base w.accepted) w.batch);
  }
  effect base w CommitEnd = record w { durable = length w.accepted; in_flight = None; owed = replies_of w.in_flight; batch = [] }
  effect base w Publish = record w { published = w.durable }
  effect base w (Answer s) = record w {
    lines = with_line w.lines s (line (queue_of w s) (seen_after (seen_of w s) w.published (answer_to w s)));
    owed = without_first s w.owed;
    answers = w.answers ++ answer_to w s;
  }
  effect base w (Read s) = record w { lines = with_line w.lines s (line (queue_of w s) w.published) }
  effect base w CheckpointBegin = record w { checking = true }
  effect base w CheckpointEnd = record w { checking = false }
  effect base w (Crash k) = record w {
    lines = emptied w.lines;
    batch = [];
    accepted = take w.durable w.accepted ++ all_of (take k (records_of w.in_flight));
    in_flight = None;
    owed = [];
    checking = false;
    down = true;
  }
  effect base w Reopen = record w { lines = unread w.lines; durable = length w.accepted; published = length w.accepted; down = false }

  -- the event may come, and this is the world after it
  abbrev pub Next : State → World A → Event A → World A → Type 0
  Next base w e w' = (may w e ≡ true) × (w' ≡ effect base w e)

  -- from w these events run, one after the other, to w'
  abbrev pub Run : State → World A → List (Event A) → World A → Type 0
  Run base w [] w' = w' ≡ w
  Run base w (e ∷ es) w' = (m : World A) × Next base w e m × Run base m es w'

  -- a commit in flight has all accepted commands that are not durable. With none, and not down, all that is accepted is durable
  abbrev pub IsInFlight : Bool → Count → List (Command A) → Option (List (Entry A)) → Type 0
  IsInFlight down durable acc None = down ≡ false → durable ≡ length acc
  IsInFlight down durable acc (Some xs) = (acc ≡ take durable acc ++ accepted_of xs) × (down ≡ false)

  -- whether an event takes memory
  abbrev pub takes_memory : Event A → Bool
  takes_memory (Submit s c) = true
  takes_memory (Seal s) = true
  takes_memory CommitBegin = true
  takes_memory CommitEnd = false
  takes_memory Publish = false
  takes_memory (Answer s) = true
  takes_memory (Read s) = false
  takes_memory CheckpointBegin = false
  takes_memory CheckpointEnd = false
  takes_memory (Crash k) = true
  takes_memory Reopen = false

  -- NotNow: the condition of the event fails. NoMemory: the event may come, and it takes memory
  abbrev pub IsRefused : World A → Event A → StepFault → Type 0
  IsRefused w e NotNow = may w e ≡ false
  IsRefused w e NoMemory = (may w e ≡ true) × (takes_memory e ≡ true)
