use denote.Param.Send.{sendable}
use Rattle.flusher.proofs.Crossing.{session_send}
use Rattle.probe_live_centre.proofs.beside.act_all.Goals as goal

pub for_each_mut-requires-send-T : goal.for_each_mut-requires-send-T
for_each_mut-requires-send-T g c κs within = search (sendable, session_send) depth 20
