use denote.Param.Send.{sendable}
use Rattle.std.proofs.Crossing.{send}
use Rattle.std.proofs.sync.atomic.AtomicU64.TheSendSync as number
use Rattle.snapshots.proofs.Crossing.{viewer_send}
use Rattle.bench_readers.proofs.reading.fn.read_beside.scope.Goals as goal

pub spawn-thread-requires-send-F : goal.spawn-thread-requires-send-F
spawn-thread-requires-send-F g c κs h = search (sendable, viewer_send, send, number.the_sync) depth 20
