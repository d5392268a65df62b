-- The job of a station, and what comes of it, may cross threads.
use denote.RattleType.{RattleType}
use denote.Param.Send.{IsSend, sendable, view_send}
use denote.Param.SendFields.{as_row_send, declared_send}
use denote.Struct.Field.{row_field}
use Rattle.snapshots.specs.declared.log.Centre as centre
use Rattle.flusher.proofs.Crossing.{ended_send, session_send}
use Rattle.stations.specs.contracts.job.Done as done
use Rattle.stations.specs.contracts.job.Job as job
use Rattle.stations.specs.contracts.port.Port as port
use Rattle.stations.specs.contracts.station_run.StationRun as run
use Rattle.console.specs.contracts.events.Events as events
use Rattle.console.specs.contracts.passed.Passed as passed

pub port_send : (I O : RattleType) → IsSend I → IsSend O → IsSend (port.the_row I O)
port_send I O i o = declared_send (port.the_type I O) (as_row_send (row_field I) i, (as_row_send (row_field O) o, tt))

-- events own nothing
events_send : IsSend events.the_row
events_send = record { owned = λ d vs. ((λ vss. (tt, tt)), tt); leaving = λ k f vs. tt }

passed_send : (I O : RattleType) → IsSend I → IsSend O → IsSend (passed.the_row I O)
passed_send I O i o = declared_send (passed.the_type I O) (events_send, (events_send, (search (sendable, view_send) depth 20, (search (sendable, view_send) depth 20, tt))))

run_send : (I O : RattleType) → IsSend I → IsSend O → IsSend (run.the_row I O)
run_send I O i o = declared_send (run.the_type I O) (as_row_send (row_field O) o, (search (sendable, view_send) depth 20, (passed_send I O i o, tt)))

pub done_send : (T I O : RattleType) (g : centre.Ghosts T.Denot) → IsSend T → IsSend I → IsSend O → IsSend (done.the_row T I O g)
done_send T I O g s i o = declared_send (done.the_type T I O g) (ended_send T g s, (run_send I O i o, tt))

pub job_send : (T I O : RattleType) (g : centre.Ghosts T.Denot) → IsSend T → IsSend I → IsSend O → IsSend (job.the_row T I O g)
job_send T I O g s i o = declared_send (job.the_type T I O g) (session_send T g s, (search (sendable, view_send) depth 20, (search (sendable, view_send) depth 20, (port_send I O i o, tt))))
