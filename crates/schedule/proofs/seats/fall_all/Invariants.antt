use Rattle.std.proofs.Common.{◌≡◌, [], map, ◌++◌, take, drop}
use Rattle.schedule.specs.World.{line}
use Rattle.schedule.proofs.seats.fall_all.Given as goal

abbrev pub invariant-loop-station : goal.invariant-loop-station
invariant-loop-station g l = l.station-items ≡ map (λ x. line [] x.seen) (take l.station-index l.fn.stations.items) ++ drop l.station-index l.fn.stations.items
