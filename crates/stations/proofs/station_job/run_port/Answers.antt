use Rattle.std.proofs.Common.{ℕ, Bool, List, ap, sym, subst}
use Rattle.std.specs.Prelude.{Option}
use Rattle.identity.specs.Numbers.{Byte}
use Rattle.console.specs.Events.{Event}
use Rattle.console.specs.Told.{EndsFor}
use Rattle.flusher.specs.Sessions.{view_of_session}
use Rattle.stations.specs.Done.{IsRunOf, IsToldOf, speaker_of}
use Rattle.stations.specs.GoesOn.{GoesOnFrom, beginning_of}
use Rattle.stations.proofs.Runs.{told_within}
use Rattle.stations.proofs.station_job.run_port.Goals as goal

pub returns : goal.returns
returns g c =
    let job = c.args.job in
    let ran = c.run_station-session in
    let within = c.into_inner-writer in
    let serving = c.serving-serving.ensures in
    record {
      answers = subst (λ (q : Bool × Option (List Byte) × Option (List Byte)). IsRunOf g.row.J.Denot g.J.Centre.base (record { station = job.session.sender.station; orders = q.0 })
          (g.I.Read.remaining job.port.reader) q.1 (view_of_session job.session) (view_of_session ran.result.0) q.2 ran.result.1)
          (λ i. (serving.orders i, ap g.O.Write.contents c.new-writer.ensures i, ap g.O.Write.contents (sym within.ensures.writer) i)) ran.ensures.answers;
      told = told_within g.row.J.Denot g.J.Centre.base ran.result.2 within.result.1 (speaker_of job) (g.I.Read.remaining job.port.reader) (g.O.Write.contents job.port.writer)
          (view_of_session job.session) (view_of_session ran.result.0) (g.O.Write.contents within.result.0) ran.result.1 within.ensures.read within.ensures.written
          (subst (λ (q : Bool × Option (List Byte) × Option (List Byte)). IsToldOf g.row.J.Denot g.J.Centre.base (record { station = job.session.sender.station; orders = q.0 })
          (g.I.Read.remaining job.port.reader) q.1 ran.result.2 (view_of_session job.session) (view_of_session ran.result.0) q.2 ran.result.1)
          (λ i. (serving.orders i, ap g.O.Write.contents c.new-writer.ensures i, ap g.O.Write.contents (sym within.ensures.writer) i)) ran.ensures.told);
      ends = subst (λ (q : ℕ × List Event × List Event). EndsFor q.0 q.1 q.2 ran.result.1)
          (λ i. (serving.turns i, sym within.ensures.read i, sym within.ensures.written i)) ran.ensures.ends;
      goes_on = subst (λ (o : Bool). GoesOnFrom o (beginning_of job.session) ran.result.0) serving.orders ran.ensures.goes_on;
      memory = ran.ensures.memory;
    }
