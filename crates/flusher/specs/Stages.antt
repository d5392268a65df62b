-- What a round does, over what is durable and what is published. Here and in the other specs of this crate `base` is the register over which
-- the centre was opened.
use Rattle.std.specs.Prelude.{◌≡◌, ◌⊎◌, ◌≤◌, ◌+◌, ℕ, Bool, true, false, Option, List, [], ◌∷◌, ◌++◌, length, take, None, Some}
use Rattle.std.specs.List.{AllByRecursion}
use Rattle.std.specs.declared.alloc.Global.{Global}
use Rattle.sector_disk.specs.Numbers.{Tick}
use Rattle.centre_core.specs.Asked.{Asked}
use Rattle.centre_core.specs.State.{State}
use Rattle.centre_core.specs.Step.{last_at}
use Rattle.centre_core.specs.History.{after}
use Rattle.centre_core.specs.Histories.{IsHistory}
use Rattle.centre_core.specs.InTurn.{reply_to, last_of, Lands, IsLeftBy}
use Rattle.centre_core.specs.declared.reply.Reply.{Reply}
use Rattle.centre_core.specs.declared.reply.Reply.TheVariants.{Accepted, Kept, Refused}
use Rattle.schedule.specs.declared.event.Event.{Event}
use Rattle.schedule.specs.declared.event.Event.TheVariants.{Submit, Read, Reopen}
use Rattle.schedule.specs.World.{World, Entry}
use Rattle.schedule.specs.Next.{answer_from}
use Rattle.schedule.specs.Rounds.{Goes, GoesDown}
use Rattle.recovery.specs.declared.fault.StoreFault.{StoreFault}
use Rattle.recovery.specs.declared.outcome.Outcome.{Outcome}
use Rattle.recovery.specs.declared.outcome.Outcome.TheVariants as outcome
use Rattle.flusher.specs.declared.decision.Decision.{Decision}
use Rattle.flusher.specs.declared.decision.Decision.TheVariants as decision

-- ---- answers

-- an answer as it is sent: the moment by the disk's clock when it is sent, its command, the list that is published then, and the decision
pub record Sent : Type 0 where
  pub moment : Tick
  pub command : Asked Global
  pub published : List (Asked Global)
  pub decision : Decision

-- an answer with these parts
abbrev pub sent : Tick → Asked Global → List (Asked Global) → Decision → Sent
sent t c published d = record { moment = t; command = c; published = published; decision = d }

-- the list `l` or the base keeps this number n and reply p for the station and the sequence of the command c
abbrev pub IsKeptOf : State → List (Asked Global) → Asked Global → ℕ → Option (List Bool) → Type 0
IsKeptOf base l c n p = IsLeftBy base l c.station (last_of c n p) ⊎ (last_at base c.station ≡ Some (last_of c n p))

-- The published list bears out a reply to the command c. Accepted: the command is in it at its number, with this reply. Kept: if the list
-- reaches this number, the list or the base keeps number and reply for the command's station and sequence. Refused: the step
-- refuses the command after some list of commands that are accepted in turn.
abbrev pub BearsOut : State → List (Asked Global) → Asked Global → Reply Global → Type 0
BearsOut base published c (Accepted n p) = Lands base published c n p
BearsOut base published c (Kept n p) = n ≤ base.count + length published → IsKeptOf base published c n p
BearsOut base published c (Refused r) = (l : List (Asked Global)) × IsHistory base l × (reply_to (after base l) c ≡ Refused r)

-- The published list bears out a decision on the command c: its reply, if it is one. Out of memory and a fault need nothing.
abbrev pub BearsOutDecision : State → List (Asked Global) → Asked Global → Decision → Type 0
BearsOutDecision base published c (decision.Replied r) = BearsOut base published c r
BearsOutDecision base published c decision.NoMemory = Unit {0}
BearsOutDecision base published c (decision.Fault fault) = Unit {0}

-- the decision for an outcome of a commit; `all`: everything durable is published
abbrev pub decision_of : Bool → Outcome Global → Decision
decision_of all (outcome.Replied r) = decision.Replied (answer_from all r)
decision_of all outcome.NoMemory = decision.NoMemory

-- the answers to these commands by these outcomes, all at one moment and with one published list. `all`: everything durable is published
abbrev pub sent_by : Tick → List (Asked Global) → Bool → List (Asked Global) → List (Outcome Global) → List Sent
sent_by t published all [] os = []
sent_by t published all (c ∷ cs) [] = []
sent_by t published all (c ∷ cs) (o ∷ os) = sent t c published (decision_of all o) ∷ sent_by t published all cs os

-- the answers to these commands, at one moment and with one decision for all
abbrev pub sent_to_all : Tick → List (Asked Global) → Decision → List (Asked Global) → List Sent
sent_to_all t published d [] = []
sent_to_all t published d (c ∷ cs) = sent t c published d ∷ sent_to_all t published d cs

-- the published list bears out the decision on each command, by its outcome
abbrev pub BearsOutDecisions : State → List (Asked Global) → Bool → List (Asked Global) → List (Outcome Global) → Type 0
BearsOutDecisions base published all [] os = Unit {0}
BearsOutDecisions base published all (c ∷ cs) [] = Unit {0}
BearsOutDecisions base published all (c ∷ cs) (o ∷ os) = BearsOutDecision base published c (decision_of all o) × BearsOutDecisions base published all cs os

-- the commands that are answered
abbrev pub commands_of : List Sent → List (Asked Global)
commands_of [] = []
commands_of (x ∷ xs) = x.command ∷ commands_of xs

-- the decision on each of many commands: this fault, or out of memory for `None`
abbrev pub decision_for_all : Option StoreFault → Decision
decision_for_all None = decision.NoMemory
decision_for_all (Some fault) = decision.Fault fault

-- ---- the core

-- the answer to a command as an entry of the core, if it is a reply; else no entry
abbrev pub entry_of : Asked Global → Decision → List (Entry Global)
entry_of c (decision.Replied r) = (c, r) ∷ []
entry_of c decision.NoMemory = []
entry_of c (decision.Fault fault) = []

-- the entries of the core for these answers, in order
abbrev pub entries_of : List Sent → List (Entry Global)
entries_of [] = []
entries_of (x ∷ xs) = entry_of x.command x.decision ++ entries_of xs

-- how far the centre has come: what is published and durable, whether a checkpoint is under way, and whether its disk has failed
pub record Stage : Type 0 where
  pub published : List (Asked Global)
  pub durable : List (Asked Global)
  pub checking : Bool
  pub broken : Bool

-- a stage with these parts
abbrev pub stage : List (Asked Global) → List (Asked Global) → Bool → Bool → Stage
stage published durable checking broken = record { published = published; durable = durable; checking = checking; broken = broken }

-- the world of the core between two rounds, at this stage and after these answers
abbrev pub world_of : Stage → List (Entry Global) → World Global
world_of s answers = record {
  lines = [];
  batch = [];
  accepted = s.durable;
  durable = length s.durable;
  published = length s.published;
  in_flight = None;
  owed = [];
  answers = answers;
  checking = s.checking;
  down = s.broken;
}

module _ (base : State) (f g : Stage) (commands : List (Asked Global)) (events : List (Event Global)) (answers : List Sent) where
  -- these events lead from stage f to stage g, take the commands and give the answers, whatever waits and whatever was answered before (`a`)
  abbrev pub GoesOn : Type 0
  GoesOn = (a : List (Entry Global)) → Goes base commands events (world_of f a) (world_of g (a ++ entries_of answers))

  -- these events lead from stage f to stage g, take the commands, give no reply, and end in a crash
  pub record Stops : Type 0 where
    pub up : f.broken ≡ false
    pub down : g.broken ≡ true
    pub none : entries_of answers ≡ []
    pub stops : (a : List (Entry Global)) → GoesDown base commands events (world_of f a) (world_of g a)

-- the event is one of the flusher: it submits and reads nothing, and reopens nothing
abbrev pub is_own : Event Global → Bool
is_own (Submit s c) = false
is_own (Read s) = false
is_own Reopen = false
is_own other = true

-- each of these events is one of the flusher (`is_own`)
abbrev pub AreOwn : List (Event Global) → Type 0
AreOwn events = AllByRecursion (λ (e : Event Global). is_own e ≡ true) events

-- A prefix of the commands, `reached` many, goes through the core by a run of the flusher's events. This run goes on, or it ends in a crash.
pub record HasRun (base : State) (f g : Stage) (commands : List (Asked Global)) (answers : List Sent) : Type 0 where
  pub reached : ℕ
  pub events : List (Event Global)
  pub own : AreOwn events
  pub run : GoesOn base f g (take reached commands) events answers ⊎ Stops base f g (take reached commands) events answers
