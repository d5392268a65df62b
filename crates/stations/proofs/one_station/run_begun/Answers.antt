use Rattle.std.proofs.Common.{◌∙◌, Bool, subst, sym}
use Rattle.std.specs.declared.alloc.Global.{Global}
use Rattle.console.specs.Runs.{IsRun}
use Rattle.console.specs.Told.{Tells, TellsWholeSince, streams_of}
use Rattle.stations.specs.OfSession.{at_session, of_session}
use Rattle.stations.proofs.OneRun.{run_by, told_by, whole_by}
use Rattle.stations.proofs.one_station.run_begun.Goals as goal

pub returns-clause-lines : goal.returns-clause-lines
returns-clause-lines g c =
    let before = streams_of g.I.Read.remaining g.O.Write.contents c.args.input.now c.args.output.now in
    let after = streams_of g.I.Read.remaining g.O.Write.contents c.run_counted-ran.new.input c.run_counted-ran.new.output in
    record {
      answers =
          run_by g.row.J.Denot g.J.Centre.base c.args.serving.now.orders
          (g.I.Read.remaining c.args.input.now.reader.now) (g.O.Write.contents c.args.output.now.writer.now) (g.O.Write.contents c.run_counted-ran.new.output.writer.now)
          c.run_counted-ran.result c.station.result
          c.new-desk.result c.args.session c.run_counted-ran.new.desk c.into_session.result
          c.station.ensures c.new-desk.ensures (sym c.into_session.ensures.same)
          (subst (λ (o : Bool). IsRun Global (of_session g.row.J.Denot g.J.Centre.base o)
          (record {
            speaker = record { station = c.station.result; orders = c.args.serving.now.orders };
            world = at_session c.new-desk.result;
            unread = g.I.Read.remaining c.args.input.now.reader.now;
            written = g.O.Write.contents c.args.output.now.writer.now;
          })
          (record { result = c.run_counted-ran.result; world = at_session c.run_counted-ran.new.desk; written = g.O.Write.contents c.run_counted-ran.new.output.writer.now }))
          (sym c.requires.orders) c.run_counted-ran.ensures.answers);
      told =
          told_by g.row.J.Denot g.J.Centre.base c.args.serving.now.orders before after c.run_counted-ran.result c.station.result
          c.new-desk.result c.args.session c.run_counted-ran.new.desk c.into_session.result
          c.station.ensures c.new-desk.ensures (sym c.into_session.ensures.same)
          (subst (λ (o : Bool). Tells Global (of_session g.row.J.Denot g.J.Centre.base o) (record { station = c.station.result; orders = c.args.serving.now.orders })
          (at_session c.new-desk.result) (at_session c.run_counted-ran.new.desk) before after c.run_counted-ran.result)
          (sym c.requires.orders) c.run_counted-ran.ensures.told);
      whole = λ failed.
          whole_by g.row.J.Denot g.J.Centre.base c.args.serving.now.orders before after c.station.result
          c.new-desk.result c.args.session c.run_counted-ran.new.desk c.into_session.result
          c.station.ensures c.new-desk.ensures (sym c.into_session.ensures.same)
          (subst (λ (o : Bool). TellsWholeSince Global (of_session g.row.J.Denot g.J.Centre.base o) (record { station = c.station.result; orders = c.args.serving.now.orders })
          (at_session c.new-desk.result) (at_session c.run_counted-ran.new.desk) before after)
          (sym c.requires.orders) (c.run_counted-ran.ensures.whole failed));
      ends = c.run_counted-ran.ensures.ends;
    }

pub returns-clause-counts : goal.returns-clause-counts
returns-clause-counts g c =
    let ran = c.run_counted-ran.ensures in
    record {
      calls = ran.calls;
      read = ran.read;
      write = ran.write;
      memory = λ out. ((ran.memory out).0, c.into_session.ensures.same ∙ (ran.memory out).1 ∙ c.new-desk.ensures);
    }
