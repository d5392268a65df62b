use Rattle.std.proofs.Common.{refl}
use Rattle.console.specs.Reading.{Speaker}
use Rattle.flusher.specs.Sessions.{view_of_session}
use Rattle.stations.proofs.Ordered.{goes_on_yet}
use Rattle.stations.proofs.Runs.{ended_nothing, refused, told_nothing}
use Rattle.stations.proofs.station_job.run_station.Goals as goal

pub returns-then-is_refused : goal.returns-then-is_refused
returns-then-is_refused g c =
    let speaker : Speaker = record { station = c.args.session.sender.station; orders = c.args.serving.now.orders } in
    let unread = g.I.Read.remaining c.args.reader.now in
    let written = g.O.Write.contents c.args.writer.now in
    record {
      answers = refused g.row.J.Denot g.J.Centre.base speaker unread written (view_of_session c.args.session);
      told = told_nothing g.row.J.Denot g.J.Centre.base c.nothing.result speaker unread written (view_of_session c.args.session) c.nothing.ensures.reader c.nothing.ensures.writer;
      ends = ended_nothing c.nothing.result c.args.serving.now.turns c.nothing.ensures.reader c.nothing.ensures.writer;
      goes_on = goes_on_yet c.args.serving.now.orders c.args.session;
      memory = λ out. refl;
    }
