use Rattle.std.proofs.Common.{◌≡◌, []}
use Rattle.std.specs.Prelude.{replicate}
use Rattle.schedule.specs.World.{line}
use Rattle.schedule.proofs.seats.idle_stations.Given as goal

abbrev pub invariant-loop : goal.invariant-loop
invariant-loop g l = l.stations.items ≡ replicate l.counter (line [] 0)
