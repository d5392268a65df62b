use Rattle.std.proofs.Common.{ap, rules, sym}
use Rattle.console.specs.Events.{read_by}
use Rattle.console.specs.Told.{calls_of, events_of, streams_of}
use Rattle.flusher.specs.Sessions.{view_of_session}
use Rattle.console.proofs.Told.{ended_of}
use Rattle.stations.proofs.Runs.{run_of, told_of}
use Rattle.stations.proofs.station_job.answer_in.Goals as goal

pub returns : goal.returns
returns g c =
    let ran = c.run_session-session in
    record {
      answers = run_of g.row.J.Denot g.J.Centre.base c.args.session.sender.station c.args.serving.now.orders (view_of_session c.args.session) (view_of_session ran.result.0) ran.result.1 ran.ensures.goes_on.station
          (ap g.I.Read.remaining c.new-input.ensures.reader_is) (ap g.O.Write.contents c.new-output.ensures.writer_is) (ap g.O.Write.contents (search rules)) ran.ensures.lines.answers;
      told = told_of g.row.J.Denot g.J.Centre.base c.by.result c.args.session.sender.station c.args.serving.now.orders (view_of_session c.args.session) (view_of_session ran.result.0) ran.result.1
          (streams_of g.I.Read.remaining g.O.Write.contents c.new-input.result c.new-output.result) (streams_of g.I.Read.remaining g.O.Write.contents ran.new.input ran.new.output)
          ran.ensures.goes_on.station (ap g.I.Read.remaining c.new-input.ensures.reader_is) (ap g.O.Write.contents c.new-output.ensures.writer_is) (ap g.O.Write.contents (search rules))
          (ap read_by c.new-input.ensures.events) c.new-output.ensures.events (ap read_by (sym c.by.ensures.reader)) (sym c.by.ensures.writer) ran.ensures.lines.told ran.ensures.lines.whole;
      ends = ended_of c.by.result c.args.serving.now.turns (calls_of c.new-input.result) (calls_of ran.new.input) (events_of c.new-output.result) (events_of ran.new.output) ran.result.1
          c.new-input.ensures.events c.new-output.ensures.events (sym c.by.ensures.reader) (sym c.by.ensures.writer) ran.ensures.lines.ends;
      goes_on = ran.ensures.goes_on;
      memory = λ out. (ran.ensures.counts.memory out).1;
    }
