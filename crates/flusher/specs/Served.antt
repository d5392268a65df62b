-- What a round has done with its commands, and what always holds between two rounds.
use Rattle.std.specs.Prelude.{◌≡◌, ◌⊎◌, ◌<◌, ◌≤◌, ℕ, Bool, true, false, cond, List, ◌++◌, length}
use mathlib.Core.List.{IsPrefix}
use Rattle.std.specs.declared.alloc.Global.{Global}
use Rattle.sector_disk.specs.Numbers.{Tick}
use Rattle.centre_core.specs.Asked.{Asked}
use Rattle.centre_core.specs.State.{State}
use Rattle.centre_core.specs.History.{after}
use Rattle.centre_core.specs.Histories.{IsHistory}
use Rattle.image_rows.specs.Rows.{last_epoch}
use Rattle.answers.specs.declared.channel.AnswerSender.{AnswerSender}
use Rattle.recovery.specs.Outcomes.{IsAnswered}
use Rattle.recovery.specs.declared.outcome.Outcome.{Outcome}
use Rattle.recovery.specs.declared.fault.StoreFault.{StoreFault}
use Rattle.recovery.specs.declared.fault.StoreFault.TheVariants.{BadGeometry, Broken, Damaged, DiskFault, EpochsUsedUp, NoMemory, Unformatted, Unready}
use Rattle.flusher.specs.declared.decision.Decision.{Decision}
use Rattle.flusher.specs.declared.decision.Decision.TheVariants as decision
use Rattle.flusher.specs.Stages.{Sent, HasRun, commands_of, sent_by, sent_to_all}
use Rattle.flusher.specs.Attempts.{HasBeenRefused, WasOutOfMemory}
use Rattle.flusher.specs.Batches.{HasBroken, HasRecorded, LacksRoom, accepted_by}
use Rattle.flusher.specs.Endings.{AreEnded}
use Rattle.flusher.specs.Answerings.{HaveAnswered}
use Rattle.flusher.specs.Borne.{AreSentInOrder}
use Rattle.flusher.specs.Order.{AreInOrder}
use Rattle.flusher.specs.View.{FlusherView, RoundProgress, stage_of}

-- What always holds between two rounds. What is durable is a history, and a sound store's register is what this history makes. What is
-- published is a prefix of the history. The history bears out each answer that was sent. Its commands are in the order in which they
-- were taken. `ended` marks the stations of whose session the end was taken.
pub record IsSettled {D : Type 0} (base : State) (f : FlusherView D) : Type 0 where
  pub history : IsHistory base f.durable
  pub made : f.store.broken ≡ false → f.store.register ≡ after base f.durable
  pub prefix : IsPrefix f.published f.durable
  pub sent : AreSentInOrder base f.durable f.senders
  pub order : AreInOrder f.durable f.taker.taken
  pub ended : AreEnded f.ended f.taker.taken

-- the decision on each command of a commit that was refused
abbrev pub decision_by : StoreFault → Decision
decision_by NoMemory = decision.NoMemory
decision_by DiskFault = decision.Fault DiskFault
decision_by Broken = decision.Fault Broken
decision_by EpochsUsedUp = decision.Fault EpochsUsedUp
decision_by Unready = decision.Fault Unready
decision_by Unformatted = decision.Fault Unformatted
decision_by BadGeometry = decision.Fault BadGeometry
decision_by (Damaged at) = decision.Fault (Damaged at)

-- How a round goes from the progress f to the progress g. It answers these commands, with these answers, at moment t.
module _ {D : Type 0} (base : State) (t : Tick) (f g : RoundProgress D) (commands : List (Asked Global)) (answers : List Sent) where
  -- The commands were committed, and each is answered by its outcome. That is its reply in its turn. If memory ran out for a command, it
  -- and all later ones are answered as out of memory. What is accepted is published. If publishing ran out of memory, an accepted command
  -- is answered as kept. A checkpoint was made only if a record of all the commands would not fit.
  pub record AreCommitted : Type 0 where
    -- the outcomes of the commit, one for each command
    pub outcomes : List (Outcome Global)
    -- whether all that is durable was published
    pub all : Bool
    pub answered : IsAnswered (after base f.durable) commands (after base g.durable) outcomes
    pub durable : g.durable ≡ f.durable ++ accepted_by commands outcomes
    pub published : g.published ≡ cond all g.durable f.durable
    -- if not all was published, a command was accepted, and the publisher was out of memory
    pub some : all ≡ false → (length f.durable < length g.durable) × HasBeenRefused f.attempts.publications g.attempts.publications
    pub sound : g.store.broken ≡ false
    pub each : answers ≡ sent_by t g.published all commands outcomes
    pub recorded : HasRecorded commands f.store g.store

  -- why a commit was refused: it ran out of memory itself, no epoch is left for a checkpoint that it needs, or the disk failed
  abbrev pub IsReason : StoreFault → Type 0
  IsReason NoMemory = WasOutOfMemory f.attempts.commits g.attempts.commits × (g.store.broken ≡ false) × HasRecorded commands f.store g.store
  IsReason EpochsUsedUp = (last_epoch ≤ f.store.epoch) × LacksRoom f.store.journal commands × (g.store ≡ f.store)
  IsReason DiskFault = HasBroken commands f.store g.store
  IsReason Broken = ⊥
  IsReason Unready = ⊥
  IsReason Unformatted = ⊥
  IsReason BadGeometry = ⊥
  IsReason (Damaged at) = ⊥

  -- the commit was refused, and each command is answered with the reason; what was durable is published
  pub record AreRefused : Type 0 where
    pub fault : StoreFault
    pub reason : IsReason fault
    pub durable : g.durable ≡ f.durable
    pub published : g.published ≡ f.durable
    pub each : answers ≡ sent_to_all t g.published (decision_by fault) commands

  -- what was durable before could still not be published: the publisher was called, and was out of memory. Nothing is committed, and each
  -- command is answered as out of memory
  pub record HasNotCaughtUp : Type 0 where
    pub fewer : length f.published < length f.durable
    pub refused : HasBeenRefused f.attempts.publications g.attempts.publications
    pub durable : g.durable ≡ f.durable
    pub published : g.published ≡ f.published
    pub store : g.store ≡ f.store
    pub each : answers ≡ sent_to_all t g.published decision.NoMemory commands

  -- the disk had failed in an earlier round: nothing is changed, and each command is answered with the fault `Broken`
  pub record AreBroken : Type 0 where
    pub durable : g.durable ≡ f.durable
    pub published : g.published ≡ f.published
    pub store : g.store ≡ f.store
    pub each : answers ≡ sent_to_all t g.published (decision.Fault Broken) commands

  -- what became of the commands: `AreBroken` if the disk had failed before, else one of the three others
  abbrev pub AreServedBy : Bool → Type 0
  AreServedBy true = AreBroken
  AreServedBy false = AreCommitted ⊎ (AreRefused ⊎ HasNotCaughtUp)

  -- why each command is answered as it is
  abbrev pub AreServed : Type 0
  AreServed = AreServedBy f.store.broken

-- Each command got one answer, in turn, at moment t. The core comes from the one stage to the other by a run of the flusher's
-- events, with the replies among these answers (`HasRun`). Each answer has its reason (`AreServed`).
pub record HasServed {D : Type 0} (base : State) (t : Tick) (f g : RoundProgress D) (commands : List (Asked Global)) (old new : List (AnswerSender Sent)) : Type 0 where
  pub answers : List Sent
  pub asked : commands_of answers ≡ commands
  pub answered : HaveAnswered old answers new
  pub run : HasRun base (stage_of f) (stage_of g) commands answers
  pub served : AreServed base t f g commands answers

-- What became durable was published, or publishing ran out of memory. Each command was answered by its outcome, at moment t. The list
-- `before` was durable and published before, and `list` is published now. `was` and `now` count the publisher's calls that were out of
-- memory, before and after it.
pub record HavePublished (t : Tick) (was now : ℕ) (before durable list commands : List (Asked Global)) (outcomes : List (Outcome Global))
    (old new : List (AnswerSender Sent)) : Type 0 where
  pub all : Bool
  pub published : list ≡ cond all durable before
  pub some : all ≡ false → (length before < length durable) × HasBeenRefused was now
  pub answered : HaveAnswered old (sent_by t list all commands outcomes) new
