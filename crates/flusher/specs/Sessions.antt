-- What a session is modelled as.
use Rattle.std.specs.Prelude.{◌≡◌, false, length}
use mathlib.Core.List.{IsPrefix}
use Rattle.crossbeam_channel.specs.Ends.{receives_on}
use Rattle.answers.specs.Views.{received_of}
use Rattle.flusher.specs.declared.session.Session.{Session}
use Rattle.flusher.specs.Submitted.{SessionView}

module _ {J : Type 0} where
  -- what the session put into the queue, what it received, and the list that it has seen; it has reached all of this list
  abbrev pub view_of_session : Session J → SessionView
  view_of_session s = record { sent = s.sender.sent; received = received_of s.receiver.pass; seen = s.viewer; reached = length s.viewer }

  -- new has the station, queue and channel of old, and its share of the queue's places
  pub record IsSameSession (old new : Session J) : Type 0 where
    pub queue : new.sender.queue ≡ old.sender.queue
    pub station : new.sender.station ≡ old.sender.station
    pub channel : receives_on new.receiver.channel ≡ receives_on old.receiver.channel
    pub share : new.share ≡ old.share
    -- a flusher that was found gone stays so
    pub gone : new.listening ≡ false → old.listening ≡ false

  -- Nothing is sent or received, and what was seen stays seen. The share stays, and so does whether the flusher was found gone.
  pub record SessionHasOnlyRead (old new : Session J) : Type 0 where
    pub sender : new.sender ≡ old.sender
    pub receiver : new.receiver ≡ old.receiver
    pub seen : IsPrefix old.viewer new.viewer
    pub share : new.share ≡ old.share
    pub listening : new.listening ≡ old.listening
