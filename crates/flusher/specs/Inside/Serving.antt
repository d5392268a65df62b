-- Serving a batch, in the parts that the code serves it in.
use Rattle.std.specs.Prelude.{◌≡◌, true, false, List, Option, Vec}
use Rattle.std.specs.declared.alloc.Global.{Global}
use mathlib.Core.List.{IsPrefix}
use Rattle.sector_disk.specs.Disk.{View}
use Rattle.sector_disk.specs.declared.disk.Disk.{Ghosts}
use Rattle.centre_core.specs.Asked.{Asked}
use Rattle.centre_core.specs.State.{State}
use Rattle.centre_core.specs.History.{after}
use Rattle.centre_core.specs.Histories.{IsHistory}
use Rattle.answers.specs.declared.channel.AnswerSender.{AnswerSender}
use Rattle.recovery.specs.Lives.{view_of as store_view}
use Rattle.recovery.specs.Outcomes.{IsAnswered}
use Rattle.recovery.specs.declared.outcome.Outcome.{Outcome}
use Rattle.recovery.specs.declared.fault.StoreFault.{StoreFault}
use Rattle.flusher.specs.Shared.{commands_in}
use Rattle.flusher.specs.Short.{AreShort}
use Rattle.flusher.specs.Stages.{Sent, decision_for_all, sent_by, sent_to_all}
use Rattle.flusher.specs.Attempts.{tries}
use Rattle.flusher.specs.Batches.{HasBroken, accepted_by}
use Rattle.flusher.specs.Served.{HasServed, HavePublished}
use Rattle.flusher.specs.View.{durable_of, progress, progress_by}
use Rattle.flusher.specs.Inside.Publishing.{IsCaughtUp}
use Rattle.flusher.specs.declared.batch.BatchBuffers.{BatchBuffers}
use Rattle.flusher.specs.declared.committing.Committer.{Committer}
use Rattle.flusher.specs.declared.publishing.Publication.{Publication}
use Rattle.flusher.specs.declared.publishing.Shown.{Shown}
use Rattle.flusher.specs.declared.publishing.Stamp.{Stamp}
use Rattle.flusher.specs.declared.serving.Committed.{Committed}

module _ {J : Type 0} where
  -- the answers to these commands with this stamp, by their outcomes
  abbrev pub answers_by : Shown J → List (Asked Global) → List (Outcome Global) → List Sent
  answers_by shown commands outcomes = sent_by shown.stamp.moment.tick shown.stamp.published shown.all commands outcomes

  -- the answers to these commands with this stamp: this fault, or out of memory, to each
  abbrev pub answers_alike : Stamp J → Option StoreFault → List (Asked Global) → List Sent
  answers_alike stamp fault commands = sent_to_all stamp.moment.tick stamp.published (decision_for_all fault) commands

  -- These commands were committed with these outcomes, and the accepted ones are kept to be published. All that was durable before is
  -- published.
  pub record IsToPublish (base : State) (p : Publication J) (commands : List (Asked Global)) (outcomes : List (Outcome Global)) : Type 0 where
    pub level : p.publisher.published ≡ p.publisher.appended
    pub history : IsHistory base p.publisher.appended
    pub answered : IsAnswered (after base p.publisher.appended) commands (after base (durable_of p)) outcomes
    pub short : AreShort outcomes
    pub kept : commands_in p.unpublished.items ≡ accepted_by commands outcomes

  -- From p to q these commands, which were committed, were published, or publishing them ran out of memory. Each was answered
  -- (`HavePublished`).
  abbrev pub HavePublishedFrom : Publication J → Publication J → List (Asked Global) → Committed → List (AnswerSender Sent)
      → List (AnswerSender Sent) → Type 0
  HavePublishedFrom p q commands committed old new =
      HavePublished committed.moment.tick p.publisher.refusals q.publisher.refusals p.publisher.appended (durable_of q) q.publisher.published
      commands committed.outcomes.items old new

module _ {J D : Type 0} {g : Ghosts D} where
  -- the store is sound, its register is what the durable commands make, and all of these are published
  pub record IsReady (base : State) (p : Publication J) (c : Committer D g) : Type 0 where
    pub caught_up : IsCaughtUp p
    pub history : IsHistory base (durable_of p)
    pub made : c.store.register ≡ after base (durable_of p)
    pub sound : c.store.broken ≡ false

  -- p and c are the publication and the committer before the commit, and q and d are those after it. `room` holds the batch.
  module _ (p : Publication J) (c : Committer D g) (q : Publication J) (d : Committer D g) (room : BatchBuffers) where
    -- What is published is a prefix of what is durable. A sound store's register is what the durable commands make. If the disk failed in
    -- the commit, nothing became durable.
    pub record IsAfterCommit (base : State) : Type 0 where
      pub prefix : IsPrefix q.publisher.published (durable_of q)
      pub history : IsHistory base (durable_of q)
      pub made : d.store.broken ≡ false → d.store.register ≡ after base (durable_of q)
      pub under_way : d.store.broken ≡ true
          → HasBroken (commands_in room.batch.items) (store_view c.store) (store_view d.store) × (durable_of q ≡ durable_of p)

    -- The commands were served (`HasServed`), whatever list `seen` was published when the round began. Before they were served the same round
    -- published all that was durable (`IsReady`).
    abbrev pub HasServedFrom : (D → View) → State → Vec (AnswerSender Sent) Global → Vec (AnswerSender Sent) Global → Type 0
    HasServedFrom view base old new = (seen : List (Asked Global))
        → HasServed base (view d.store.disk).moment (progress seen (durable_of p) (store_view c.store) (tries c.attempts p.publisher.refusals))
        (progress_by q d) (commands_in room.batch.items) old.items new.items
