-- The parts of a round: its seals, its answers, and what bears out the answers.
use Rattle.std.specs.Prelude.{◌≡◌, ◌==◌, ◌+◌, ◌≤◌, Bool, true, false, List, [], ◌∷◌, ◌++◌, length, None}
use Rattle.std.specs.List.{AllByRecursion}
use Rattle.centre_core.specs.declared.command.Command.{Command}
use Rattle.centre_core.specs.State.{State}
use Rattle.centre_core.specs.History.{after}
use Rattle.centre_core.specs.Histories.{IsHistory}
use Rattle.centre_core.specs.Batches.{with_replies, taken}
use Rattle.schedule.specs.declared.event.Event.{Event}
use Rattle.schedule.specs.declared.event.Event.TheVariants.{Answer}
use Rattle.schedule.specs.World.{World, Line, Entry}
use Rattle.schedule.specs.Next.{Run, is_place, answer_from, answered}
use Rattle.schedule.specs.Clauses.{IsBorneOut}
use Rattle.schedule.specs.Rounds.{at, fed, queues, AreOf, seals}

module _ {A : Type 0} where
  -- the world with these commands sealed too
  abbrev pub batched : World A → List (Command A) → World A
  batched f ps = record f { batch = f.batch ++ ps }

  -- the world with these entries owed
  abbrev pub owing : World A → List (Entry A) → World A
  owing f xs = record f { owed = xs }

  -- the world with these entries answered, and nothing owed
  abbrev pub answering : World A → List (Entry A) → World A
  answering f xs = record f { owed = []; answers = f.answers ++ answered (f.published == f.durable) xs }

  -- the events that answer each entry
  abbrev pub answer_events : List (Entry A) → List (Event A)
  answer_events [] = []
  answer_events (x ∷ xs) = Answer x.0.station ∷ answer_events xs

  -- each entry is of one of these stations
  abbrev pub AreEntriesOf : List (Line A) → List (Entry A) → Type 0
  AreEntriesOf lines xs = AllByRecursion (λ (x : Entry A). is_place lines x.0.station ≡ true) xs

module _ (A : Type 0) where
  -- the first commands of the queues are sealed, up to 64 in all
  abbrev pub SealsRun : Type 0
  SealsRun = (base : State) (ps : List (Command A)) (f : World A) (xs : List (Line A)) → AreOf xs ps
      → f.down ≡ false → f.in_flight ≡ None → f.owed ≡ [] → length f.batch + length ps ≤ 64
      → Run base (at f (fed ps xs)) (seals ps) (at (batched f ps) xs)

  -- all that is owed is answered, and the queues stay
  abbrev pub AnswersRun : Type 0
  AnswersRun = (base : State) (xs : List (Entry A)) (f : World A) (lines : List (Line A)) → f.down ≡ false → AreEntriesOf lines xs
      → (later : List (Line A)) × (queues later ≡ queues lines) × Run base (at (owing f xs) lines) (answer_events xs) (at (answering f xs) later)

  -- an answer is borne out if its entry is
  abbrev pub OneIsBorneOut : Type 0
  OneIsBorneOut = (base : State) (l : List (Command A)) (all : Bool) (x : Entry A) → IsBorneOut base l x → IsBorneOut base l (x.0, answer_from all x.1)

  -- the answers of entries that are borne out are borne out
  abbrev pub AnsweredAreBorneOut : Type 0
  AnsweredAreBorneOut = (base : State) (l : List (Command A)) (all : Bool) (xs : List (Entry A))
      → AllByRecursion (IsBorneOut base l) xs → AllByRecursion (IsBorneOut base l) (answered all xs)

  -- an entry is borne out by a longer list too
  abbrev pub BorneOutByLonger : Type 0
  BorneOutByLonger = (base : State) (l m : List (Command A)) (x : Entry A) → IsBorneOut base l x → IsBorneOut base (l ++ m) x

  -- a history followed by the accepted commands of a batch is a history, and it bears out the batch's entries
  abbrev pub BatchesAreBorneOut : Type 0
  BatchesAreBorneOut = (base : State) (l cs : List (Command A)) → IsHistory base l
      → IsHistory base (l ++ taken (after base l) cs) × AllByRecursion (IsBorneOut base (l ++ taken (after base l) cs)) (with_replies A (after base l) cs)
