use Rattle.std.proofs.Common.{rules}
use Rattle.stations.proofs.station_threads.fn.serve_all.scope+FnOnce.call_once.Goals as goal

pub scope-requires : goal.scope-requires
scope-requires g c = search rules depth 14
