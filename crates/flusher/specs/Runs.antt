-- What a run of the flusher does: rounds, until the end of each session was taken.
use Rattle.std.specs.Prelude.{◌≡◌, ◌⊎◌, ℕ, ◌+◌, ◌<◌, length, slice_get, Some, Contains}
use Rattle.sector_disk.specs.Disk.{View}
use Rattle.crossbeam_channel.specs.Ends.{sends_on}
use Rattle.centre_core.specs.State.{State}
use Rattle.station_queue.specs.declared.entry.Entry.TheVariants.{Ended}
use Rattle.answers.specs.declared.channel.AnswerSender.{AnswerSender}
use Rattle.flusher.specs.Stages.{Sent}
use Rattle.flusher.specs.View.{FlusherView}
use Rattle.flusher.specs.Rounds.{IsRound}

-- rounds, one after another: none, or one and then rounds
pub data AreRounds {D : Type 0} (view : D → View) (base : State) : FlusherView D → FlusherView D → Type 0 where
  none : (f : FlusherView D) → AreRounds view base f f
  next : (f g h : FlusherView D) → IsRound view base f g → AreRounds view base g h → AreRounds view base f h

-- the end of each session is among the entries taken
abbrev pub HasTakenEnds : {D : Type 0} → FlusherView D → Type 0
HasTakenEnds f = (k : ℕ) → k < length f.senders → Contains f.taker.taken (Ended (k + 1))

-- no round was done once the end of each session was taken: none was done at all, or before the last one an end was missing
abbrev pub HasStopped : {D : Type 0} → (D → View) → State → FlusherView D → FlusherView D → Type 0
HasStopped {D} view base f h = (h ≡ f) ⊎ ((g : FlusherView D) × AreRounds view base f g × (HasTakenEnds g → ⊥) × IsRound view base g h)

-- the flusher still has its queue and its channels
pub record HasSameEnds {D : Type 0} (f g : FlusherView D) : Type 0 where
  pub queue : g.taker.queue ≡ f.taker.queue
  pub count : length g.senders ≡ length f.senders
  pub channels : (k : ℕ) (a b : AnswerSender Sent) → slice_get f.senders k ≡ Some a → slice_get g.senders k ≡ Some b → sends_on b.channel ≡ sends_on a.channel
