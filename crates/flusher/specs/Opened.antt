-- A centre as it is opened.
use Rattle.std.specs.Prelude.{◌≡◌, ◌+◌, ◌&&◌, ℕ, Bool, false, All, List, [], length, replicate, slice_get, Some, nat_lt, nat_le}
use Rattle.std.specs.declared.alloc.Global.{Global}
use Rattle.atomic_table.specs.Seated.{TableId}
use Rattle.crossbeam_channel.specs.Ends.{sends_on, receives_on, ruled_capacity}
use Rattle.registration.specs.Numbers.{Station}
use Rattle.station_queue.specs.Ends.{Taking, sending, taking}
use Rattle.station_queue.specs.Entries.{share_of}
use Rattle.answers.specs.declared.channel.AnswerSender.{AnswerSender}
use Rattle.answers.specs.Sent.{AreEnds}
use Rattle.answers.specs.Views.{sent_of, received_of}
use Rattle.recovery.specs.Lives.{StoreView}
use Rattle.flusher.specs.declared.session.Session.{Session}
use Rattle.flusher.specs.Stages.{Sent}
use Rattle.flusher.specs.View.{FlusherView}

-- there is at least one session, and the register has a station for each
abbrev pub has_place : ℕ → ℕ → Bool
has_place stations sessions = nat_lt 0 sessions && nat_le sessions stations

module _ {J : Type 0} where
  -- a session of this station before its first call, on this queue and on the channel of these answers
  pub record IsNewSession (queue : TableId) (station : Station) (answers : AnswerSender Sent) (session : Session J) : Type 0 where
    pub sender : session.sender ≡ sending queue station []
    pub channel :
        AreEnds (sends_on answers.channel) (receives_on session.receiver.channel) (sent_of answers.pass) (received_of session.receiver.pass) answers.gone
    pub viewer : session.viewer ≡ []
    -- its channel has room for an answer to each command that it may have under way
    pub room : ruled_capacity (sends_on answers.channel) ≡ session.share
    -- it has not found its flusher gone
    pub listening : session.listening ≡ false

  -- a new session (`IsNewSession`) for each sender of answers, of stations 1, 2 and so on
  pub record AreNewSessions (queue : TableId) (senders : List (AnswerSender Sent)) (sessions : List (Session J)) : Type 0 where
    pub count : length sessions ≡ length senders
    pub each : (k : ℕ) (a : AnswerSender Sent) (s : Session J) → slice_get senders k ≡ Some a → slice_get sessions k ≡ Some s → IsNewSession queue (k + 1) a s

  -- the taker of a queue from which nothing was taken, and the sessions of this many stations
  pub record AreOpened (stations : ℕ) (taker : Taking) (senders : List (AnswerSender Sent)) (sessions : List (Session J)) : Type 0 where
    pub queue : taker ≡ taking taker.queue stations [] [] taker.empty
    pub count : length senders ≡ stations
    pub each : AreNewSessions taker.queue senders sessions
    pub shares : All (λ (s : Session J). s.share ≡ share_of stations) sessions

-- a flusher of the opened store and of this many stations, before its first round
pub record IsNewFlusher {D : Type 0} (stations : ℕ) (opened : StoreView Global D) (f : FlusherView D) : Type 0 where
  pub queue : f.taker ≡ taking f.taker.queue stations [] [] f.taker.empty
  pub count : length f.senders ≡ stations
  pub published : f.published ≡ []
  pub durable : f.durable ≡ []
  pub store : f.store ≡ opened
  pub ended : f.ended ≡ replicate stations false
