use Rattle.std.proofs.Common.{sym, subst, arith}
use Rattle.stations.specs.Done.{IsDone}
use Rattle.stations.specs.declared.job.Job.{Job}
use Rattle.stations.specs.declared.job.Done.{Done}
use Rattle.stations.proofs.Zipped.{either_way, through}
use Rattle.stations.proofs.station_threads.serve_in.Goals as goal

pub end_all-requires-clause-room : goal.end_all-requires-clause-room
end_all-requires-clause-room g c = omega (arith, c.begin_all-begun.ensures.count, c.requires.room, c.args.room.room.1)

pub returns-clause-done : goal.returns-clause-done
returns-clause-done g c =
    through c.args.jobs.items c.begin_all-begun.result.items c.end_all.result.items _ _ _
    (λ (job : Job g.row.J.Denot g.row.I.Denot g.row.O.Denot) b (done : Done g.row.J.Denot g.row.I.Denot g.row.O.Denot). either_way b
    (λ h same kept. subst (λ (j : Job g.row.J.Denot g.row.I.Denot g.row.O.Denot). IsDone g.row.J.Denot g.J.Centre.base g.I.Read.remaining g.O.Write.contents j done) same kept)
    (λ d made same. subst (λ (x : Done g.row.J.Denot g.row.I.Denot g.row.O.Denot). IsDone g.row.J.Denot g.J.Centre.base g.I.Read.remaining g.O.Write.contents job x) (sym same) made))
    c.begin_all-begun.ensures.begun c.end_all.ensures

pub returns-clause-flushed : goal.returns-clause-flushed
returns-clause-flushed g c =
    let run = c.run.ensures in
    record {
      rounds = run.rounds;
      ended = run.ended;
      at_once = run.at_once;
      same = run.same;
      settled = run.settled;
      stored = λ first. (run.stored first).stored;
      any_moment = λ first. (run.stored first).any_moment;
      lasting = λ first. (run.stored first).lasting;
      later = run.breaks.later;
      failed = run.breaks.failed;
    }
