-- How a centre is closed.
use Rattle.std.specs.Prelude.{◌≡◌, ℕ, ◌+◌, List, length, slice_get, Some}
use mathlib.Core.List.{IsPrefix, Sublist}
use Rattle.crossbeam_channel.specs.Ends.{sends_on, receives_on}
use Rattle.centre_core.specs.State.{State}
use Rattle.station_queue.specs.Entries.{entries_of}
use Rattle.answers.specs.Views.{sent_of, received_of}
use Rattle.answers.specs.declared.channel.AnswerSender.{AnswerSender}
use Rattle.flusher.specs.Stages.{Sent}
use Rattle.flusher.specs.Shared.{commands_among}
use Rattle.flusher.specs.Borne.{AreBorneOut}
use Rattle.flusher.specs.Order.{of_station}
use Rattle.flusher.specs.View.{FlusherView}
use Rattle.flusher.specs.Runs.{HasTakenEnds}
use Rattle.flusher.specs.declared.session.Ended.{Ended}
use Rattle.flusher.specs.declared.session.Session.{Session}

-- the session has ended, and its end has the session's station, queue and channel
pub record HasFinished {J : Type 0} (session : Session J) (end : Ended J) : Type 0 where
  pub queue : end.sender.queue ≡ session.sender.queue
  pub station : end.sender.station ≡ session.sender.station
  pub channel : receives_on end.receiver.channel ≡ receives_on session.receiver.channel

module _ {J D : Type 0} where
  -- P holds of each ended session, with its place and the sender of answers at that place
  abbrev pub IsTrueOfEach : FlusherView D → List (Ended J) → (ℕ → AnswerSender Sent → Ended J → Type 0) → Type 0
  IsTrueOfEach f ended P = (k : ℕ) (a : AnswerSender Sent) (e : Ended J) → slice_get f.senders k ≡ Some a → slice_get ended k ≡ Some e → P k a e

  -- the session at place k was that of station k + 1: it sent into the flusher's queue, and received from the flusher's sender at that place
  pub record IsSessionOf (f : FlusherView D) (k : ℕ) (sender : AnswerSender Sent) (end : Ended J) : Type 0 where
    pub queue : end.sender.queue ≡ f.taker.queue
    pub station : end.sender.station ≡ k + 1
    pub channel : receives_on end.receiver.channel ≡ sends_on sender.channel

  -- these are all the sessions of the flusher, in order of station
  pub record AreSessionsOf (f : FlusherView D) (ended : List (Ended J)) : Type 0 where
    pub count : length ended ≡ length f.senders
    pub each : IsTrueOfEach f ended (IsSessionOf f)

  -- the session at place k is that of station k + 1, before its end
  pub record IsOpenSessionOf (f : FlusherView D) (k : ℕ) (sender : AnswerSender Sent) (session : Session J) : Type 0 where
    pub queue : session.sender.queue ≡ f.taker.queue
    pub station : session.sender.station ≡ k + 1
    pub channel : receives_on session.receiver.channel ≡ sends_on sender.channel

  -- these are all the sessions of the flusher, in order of station, before their ends
  pub record AreOpenSessionsOf (f : FlusherView D) (sessions : List (Session J)) : Type 0 where
    pub count : length sessions ≡ length f.senders
    pub each : (k : ℕ) (a : AnswerSender Sent) (s : Session J) → slice_get f.senders k ≡ Some a → slice_get sessions k ≡ Some s → IsOpenSessionOf f k a s

  -- what is known of one session and its sender of answers, once the centre is closed
  pub record IsClosedSession (base : State) (f : FlusherView D) (sender : AnswerSender Sent) (end : Ended J) : Type 0 where
    -- the entries taken of its station are all that it sent, in that order: its commands, and then its end
    pub taken : entries_of end.sender.station f.taker.taken ≡ end.sender.sent
    -- the answers that it received are a prefix of those that were sent to it
    pub received : IsPrefix (received_of end.receiver.pass) (sent_of sender.pass)
    -- the commands that it has seen are a prefix of the durable ones
    pub seen : IsPrefix end.viewer f.durable
    -- each answer that it received is borne out by a prefix of the durable commands, and no prefix is shorter than the one before it
    pub borne_out : AreBorneOut base f.durable 0 (received_of end.receiver.pass)
    -- the durable commands of its station are some of those that it sent, in the same order
    pub order : Sublist (of_station end.sender.station f.durable) (commands_among end.sender.sent)

  -- each session of the closed centre is as `IsClosedSession` says
  pub record IsClosed (base : State) (f : FlusherView D) (ended : List (Ended J)) : Type 0 where
    pub each : IsTrueOfEach f ended (λ k. IsClosedSession base f)

-- why a centre was not closed: the end of a session was not taken
abbrev pub IsNotClosed : {D : Type 0} → FlusherView D → Type 0
IsNotClosed f = HasTakenEnds f → ⊥
