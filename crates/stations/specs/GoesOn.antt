-- What stays in a session, whatever it is asked.
use Rattle.std.specs.Prelude.{◌≡◌, Bool, List, Option, None, Some}
use Rattle.std.specs.declared.alloc.Global.{Global}
use mathlib.Core.List.{IsPrefix}
use Rattle.crossbeam_channel.specs.Ends.{receives_on}
use Rattle.centre_core.specs.Asked.{Asked}
use Rattle.station_queue.specs.Ends.{Sending}
use Rattle.answers.specs.declared.channel.AnswerReceiver.{AnswerReceiver}
use Rattle.flusher.specs.Stages.{Sent}
use Rattle.flusher.specs.declared.session.Session.{Session}
use Rattle.stations.specs.Orders.{Submits}

-- a session when its run began: its ends, and what it had seen
pub record Beginning : Type 0 where
  pub sender : Sending
  pub receiver : AnswerReceiver Sent
  pub seen : List (Asked Global)

module _ {J : Type 0} where
  -- this session as the beginning of a run
  abbrev pub beginning_of : Session J → Beginning
  beginning_of s = record { sender = s.sender; receiver = s.receiver; seen = s.viewer }

  -- The session has the station, queue and channel of this beginning. What was seen then is a prefix of what is seen now. If its station may
  -- give no orders, it has submitted none since.
  pub record GoesOnFrom (may_order : Bool) (b : Beginning) (s : Session J) : Type 0 where
    pub queue : s.sender.queue ≡ b.sender.queue
    pub station : s.sender.station ≡ b.sender.station
    pub channel : receives_on s.receiver.channel ≡ receives_on b.receiver.channel
    pub seen : IsPrefix b.seen s.viewer
    pub submits : Submits may_order b.sender.sent s.sender.sent

  -- the session goes on from this beginning, if there is one
  abbrev pub GoesOn : Bool → Option Beginning → Session J → Type 0
  GoesOn may_order None s = Unit {0}
  GoesOn may_order (Some b) s = GoesOnFrom may_order b s
