use denote.Param.Send.{sendable}
use Rattle.std.proofs.sync.atomic.AtomicU64.TheSendSync as number
use Rattle.probe_live_centre.proofs.Crossing.{sessions_send}
use Rattle.probe_live_centre.proofs.beside.serve_all.Goals as goal

pub join_mut-served-requires-send-F : goal.join_mut-served-requires-send-F
join_mut-served-requires-send-F g c κs within = search (sendable, sessions_send, number.the_sync) depth 20
