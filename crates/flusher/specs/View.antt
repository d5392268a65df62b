-- What the flusher is modelled as.
use Rattle.std.specs.Prelude.{Bool, false, cond, is_some, List, ◌++◌}
use Rattle.std.specs.declared.alloc.Global.{Global}
use Rattle.sector_disk.specs.declared.disk.Disk.{Ghosts}
use Rattle.centre_core.specs.Asked.{Asked}
use Rattle.station_queue.specs.Ends.{Taking}
use Rattle.answers.specs.declared.channel.AnswerSender.{AnswerSender}
use Rattle.recovery.specs.Lives.{StoreView, view_of as store_view}
use Rattle.flusher.specs.Shared.{commands_in}
use Rattle.flusher.specs.Stages.{Sent, Stage, stage}
use Rattle.flusher.specs.declared.publishing.Publication.{Publication}
use Rattle.flusher.specs.Attempts.{Tries, tries}
use Rattle.flusher.specs.declared.committing.Committer.{Committer}
use Rattle.flusher.specs.declared.flusher.Flusher.{Flusher}

-- The taker of the queue; the published commands, and the durable ones; the channels, one for each station; the store; the attempts to commit
-- and to publish (`Tries`); and for each station whether the end of its session was taken.
pub record FlusherView (D : Type 0) : Type 0 where
  pub taker : Taking
  pub published : List (Asked Global)
  pub durable : List (Asked Global)
  pub senders : List (AnswerSender Sent)
  pub store : StoreView Global D
  pub attempts : Tries
  pub ended : List Bool

-- all that is durable: what the publisher has, and what it does not have yet
abbrev pub durable_of : {J : Type 0} → Publication J → List (Asked Global)
durable_of p = p.publisher.appended ++ commands_in p.unpublished.items

-- this flusher as modelled
abbrev pub view_of_flusher : {J D : Type 0} {g : Ghosts D} → Flusher J D g → FlusherView D
view_of_flusher f = record {
  taker = f.taker;
  published = f.publication.publisher.published;
  durable = durable_of f.publication;
  senders = f.senders.items;
  store = store_view f.committer.store;
  attempts = tries f.committer.attempts f.publication.publisher.refusals;
  ended = f.ended.items;
}

-- how far the centre has come: what is published and durable, its store, and its attempts to commit and to publish
pub record RoundProgress (D : Type 0) : Type 0 where
  pub published : List (Asked Global)
  pub durable : List (Asked Global)
  pub store : StoreView Global D
  pub attempts : Tries

-- progress with these parts
abbrev pub progress : {D : Type 0} → List (Asked Global) → List (Asked Global) → StoreView Global D → Tries → RoundProgress D
progress published durable store attempts = record { published = published; durable = durable; store = store; attempts = attempts }

-- how far this flusher has come
abbrev pub progress_of : {D : Type 0} → FlusherView D → RoundProgress D
progress_of f = progress f.published f.durable f.store f.attempts

-- how far the flusher with this publication and this committer has come
abbrev pub progress_by : {J D : Type 0} {g : Ghosts D} → Publication J → Committer D g → RoundProgress D
progress_by p c = progress p.publisher.published (durable_of p) (store_view c.store) (tries c.attempts p.publisher.refusals)

-- whether a checkpoint is under way in a store that is not broken
abbrev pub is_checking : {D : Type 0} → StoreView Global D → Bool
is_checking store = cond store.broken false (is_some store.ongoing)

-- the stage of the core at this progress
abbrev pub stage_of : {D : Type 0} → RoundProgress D → Stage
stage_of f = stage f.published f.durable (is_checking f.store) f.store.broken
