use denote.Param.Send.{sendable}
use Rattle.stations.proofs.station_threads.serve_all.Goals as goal

pub scoped-requires : goal.scoped-requires
scoped-requires g c =
    record { at = λ a. ((c.requires.settled, c.requires.room), search (sendable) depth 20) }
