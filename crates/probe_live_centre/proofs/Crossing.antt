-- Sessions may cross threads.
use denote.RattleType.{RattleType}
use denote.Param.Send.{IsSend}
use Rattle.std.proofs.Crossing.{send, Vec-send}
use Rattle.std.specs.contracts.alloc.Global as Heap
use Rattle.std.specs.contracts.impls.GlobalAllocator.TheImpl.{ghosts}
use Rattle.std.specs.contracts.vec.Vec as vec
use Rattle.snapshots.specs.declared.log.Centre as centre
use Rattle.flusher.specs.contracts.session.Session as session
use Rattle.flusher.proofs.Crossing.{session_send}

pub sessions_send : (T : RattleType) (g : centre.Ghosts T.Denot) → IsSend T → IsSend (vec.the_row (session.the_row T g) Heap.the_row ghosts)
sessions_send T g s = Vec-send _ (session_send T g s)
