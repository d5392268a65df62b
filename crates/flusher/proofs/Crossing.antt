-- A session may cross threads, before its end and after it. Each fact goes by the parts of its type.
use denote.RattleType.{RattleType}
use denote.Param.Send.{IsSend, IsSync, view_send, sendable}
use denote.Param.SendFields.{declared_send}
use Rattle.std.proofs.Crossing.{Arc-send, send, sync, frees}
use Rattle.std.specs.contracts.alloc.Global as Heap
use Rattle.std.specs.contracts.impls.GlobalAllocator.TheImpl.{ghosts}
use Rattle.centre_core.proofs.command.Command.TheSendSync as command_crosses
use Rattle.centre_core.specs.contracts.command.Command as command
use Rattle.station_queue.proofs.sender.Sender.TheSendSync as sender_crosses
use Rattle.answers.proofs.channel.AnswerReceiver.TheSendSync as receiver_crosses
use Rattle.snapshots.specs.declared.log.Centre as centre
use Rattle.snapshots.proofs.Crossing.{viewer_send, published_send}
use Rattle.flusher.proofs.decision.Decision.TheSendSync as decision_crosses
use Rattle.flusher.specs.contracts.moment.Moment as moment
use Rattle.flusher.specs.contracts.response.Response as response
use Rattle.flusher.specs.contracts.response.Response.TheInside as inside
use Rattle.flusher.specs.contracts.session.Session as session
use Rattle.flusher.specs.contracts.session.Ended as ended

command_send : IsSend (command.the_row Heap.the_row ghosts)
command_send = command_crosses.the_send Heap.the_row ghosts send frees

command_sync : IsSync (command.the_row Heap.the_row ghosts)
command_sync = command_crosses.the_sync Heap.the_row ghosts sync

-- a moment owns nothing
moment_send : IsSend moment.the_row
moment_send = record { owned = λ d vs. ((λ vss. (tt, ((λ uss. (tt, tt)), tt))), tt); leaving = λ k f vs. tt }

inside_send : (T : RattleType) (g : centre.Ghosts T.Denot) → IsSend T → IsSend (inside.the_row T g)
inside_send T g s =
    let shared = Arc-send (command.the_row Heap.the_row ghosts) command_send command_sync in
    declared_send (inside.the_type T g) (shared, (published_send T g s, (decision_crosses.the_send, (moment_send, tt))))

pub response_send : (T : RattleType) (g : centre.Ghosts T.Denot) → IsSend T → IsSend (response.the_row T g)
response_send T g s = let i = inside_send T g s in search (i, view_send)

pub session_send : (T : RattleType) (g : centre.Ghosts T.Denot) → IsSend T → IsSend (session.the_row T g)
session_send T g s =
    let receives = receiver_crosses.the_send (response.the_row T g) (response_send T g s) in
    let reads = viewer_send T g s in
    declared_send (session.the_type T g) (sender_crosses.the_send, (receives, (reads, (search (sendable, view_send) depth 20, (search (sendable, view_send) depth 20, (send, tt))))))

pub ended_send : (T : RattleType) (g : centre.Ghosts T.Denot) → IsSend T → IsSend (ended.the_row T g)
ended_send T g s =
    let receives = receiver_crosses.the_send (response.the_row T g) (response_send T g s) in
    let reads = viewer_send T g s in
    declared_send (ended.the_type T g) (sender_crosses.the_send, (receives, (reads, tt)))
