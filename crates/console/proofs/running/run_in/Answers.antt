use Rattle.std.proofs.Common.{rules, ap, sym}
use Rattle.console.specs.Events.{read_by}
use Rattle.console.specs.Runs.{speaker_of}
use Rattle.console.specs.Told.{Streams, calls_of, events_of, reader_events, streams_of, writer_events}
use Rattle.console.proofs.Runs.{run_equal}
use Rattle.console.proofs.Told.{ended_of, told_since}
use Rattle.console.proofs.running.run_in.Goals as goal

pub returns : goal.returns
returns g c =
    let ran = c.run_counted-ran in
    let s = g.D.Desk.world c.args.desk.now in
    let t = g.D.Desk.world ran.new.desk in
    let old : Streams = streams_of g.R.Read.remaining g.W.Write.contents c.new-input.result c.new-output.result in
    let new : Streams = streams_of g.R.Read.remaining g.W.Write.contents ran.new.input ran.new.output in
    let unpassed_yet = c.new-output.ensures.events in
    let passes = sym c.by.ensures.writer in
    record {
      answers = run_equal g.row.A.Denot g.D.Desk.rules (speaker_of c.args.terms) s t ran.result
          (ap g.R.Read.remaining c.new-input.ensures.reader_is) (ap g.W.Write.contents c.new-output.ensures.writer_is) (ap g.W.Write.contents (search rules)) ran.ensures.answers;
      told = told_since g.D.Desk.rules (speaker_of c.args.terms) s t old new (reader_events c.by.result) (writer_events c.by.result) ran.result
          (ap read_by c.new-input.ensures.events) unpassed_yet (ap read_by (sym c.by.ensures.reader)) passes
          (ap g.R.Read.remaining c.new-input.ensures.reader_is) (ap g.W.Write.contents c.new-output.ensures.writer_is) (ap g.W.Write.contents (search rules))
          ran.ensures.told ran.ensures.whole;
      ends = ended_of c.by.result c.args.terms.turns (calls_of c.new-input.result) (calls_of ran.new.input) (events_of c.new-output.result) (events_of ran.new.output) ran.result
          c.new-input.ensures.events unpassed_yet (sym c.by.ensures.reader) passes ran.ensures.ends;
    }
