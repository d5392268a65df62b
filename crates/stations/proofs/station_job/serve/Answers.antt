use Rattle.std.proofs.Common.{◌≡◌, [], ◌∷◌, ◌++◌, ap, ◌∙◌, subst}
use Rattle.flusher.specs.Sessions.{view_of_session}
use Rattle.atomic_table.specs.Seated.{TableId}
use Rattle.registration.specs.Numbers.{Station}
use Rattle.station_queue.specs.Ends.{sending}
use Rattle.station_queue.specs.declared.entry.Entry.TheVariants as entry
use Rattle.crossbeam_channel.specs.Ends.{receives_on}
use Rattle.answers.specs.Views.{received_of}
use Rattle.answers.specs.declared.channel.AnswerReceiver.{AnswerReceiver}
use Rattle.flusher.specs.Stages.{Sent}
use Rattle.stations.proofs.station_job.serve.Goals as goal

pub returns : goal.returns
returns g c =
    let ran = c.run_port-session in
    let session = ran.result.0 in
    let end = c.finish-ended.ensures in (
      view_of_session session,
      record {
        run = ran.ensures.answers;
        told = ran.ensures.told;
        ends = ran.ensures.ends;
        sender = subst (λ (q : TableId × Station). c.finish-ended.result.sender ≡ sending q.0 q.1 (session.sender.sent ++ entry.Ended q.1 ∷ []))
            (λ i. (ran.ensures.goes_on.queue i, ran.ensures.goes_on.station i)) end.sent;
        received = ap (λ (r : AnswerReceiver Sent). received_of r.pass) end.same.0;
        channel = ap (λ (r : AnswerReceiver Sent). receives_on r.channel) end.same.0 ∙ ran.ensures.goes_on.channel;
        seen = end.same.1;
        submits = ran.ensures.goes_on.submits;
        memory = λ out. ap view_of_session (ran.ensures.memory out);
      },
    )
