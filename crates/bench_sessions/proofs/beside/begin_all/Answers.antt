use denote.Param.Send.{sendable}
use Rattle.flusher.proofs.Crossing.{session_send}
use Rattle.bench_sessions.proofs.beside.Load.TheSendSync as load
use Rattle.bench_sessions.proofs.beside.begin_all.Goals as goal

pub spawn-thread-requires-send-F : goal.spawn-thread-requires-send-F
spawn-thread-requires-send-F g c κs within = search (sendable, session_send, load.the_sync) depth 20
