use denote.Param.Send.{sendable}
use Rattle.std.proofs.Common.{subst, sym}
use Rattle.stations.specs.declared.job.Done.{Done}
use Rattle.stations.specs.declared.job.Job.{Job}
use Rattle.stations.specs.Done.{IsDone}
use Rattle.stations.proofs.Crossing.{done_send, job_send}
use Rattle.stations.proofs.station_job.Shared.TheSendSync as shared
use Rattle.stations.proofs.station_threads.begin.Goals as goal

pub spawn_with-requires-send-F : goal.spawn_with-requires-send-F
spawn_with-requires-send-F g c κs within = search (sendable, job_send, shared.the_sync) depth 30

pub spawn_with-requires-send-T : goal.spawn_with-requires-send-T
spawn_with-requires-send-T g c κs within = search (sendable, done_send) depth 20

pub returns-in-Err : goal.returns-in-Err
returns-in-Err g c =
    subst (λ (q : Job g.row.J.Denot g.row.I.Denot g.row.O.Denot × Done g.row.J.Denot g.row.I.Denot g.row.O.Denot). IsDone g.row.J.Denot g.J.Centre.base g.I.Read.remaining g.O.Write.contents q.0 q.1)
    (λ i. ((c.in-Err.ensures.err i).1, (sym c.spawn_with-in-Err.ensures.said-raw.1.1.1) i)) c.spawn_with-in-Err.ensures.said-raw.1.1.0.ensures
