-- A session that only read, as a desk.
use Rattle.std.proofs.Common.{refl, ap}
use Rattle.answers.specs.Views.{received_of}
use Rattle.answers.specs.declared.channel.AnswerReceiver.{AnswerReceiver}
use Rattle.centre_core.specs.State.{State}
use Rattle.station_queue.specs.Ends.{Sending}
use Rattle.flusher.specs.Sessions.{SessionHasOnlyRead}
use Rattle.flusher.specs.Stages.{Sent}
use Rattle.flusher.specs.declared.session.Session.{Session}
use Rattle.stations.specs.OfSession.{SessionOnlyReads, at_session}

pub only_reads : {J : Type 0} (base : State) (s t : Session J) → SessionHasOnlyRead s t → SessionOnlyReads J base (at_session s) (at_session t)
only_reads base s t read = (
  ap (λ (x : Sending). x.station) read.sender,
  ap (λ (x : Sending). x.sent) read.sender,
  ap (λ (r : AnswerReceiver Sent). received_of r.pass) read.receiver,
  refl,
)
