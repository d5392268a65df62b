use denote.Param.Send.{sendable}
use Rattle.std.proofs.sync.atomic.AtomicU64.TheSendSync as number
use Rattle.flusher.proofs.Crossing.{session_send}
use Rattle.flusher_tests.proofs.closing.are_served.Goals as goal

pub join_mut-accepted-requires-send-F : goal.join_mut-accepted-requires-send-F
join_mut-accepted-requires-send-F g c κs within = search (sendable, session_send, number.the_sync) depth 20
