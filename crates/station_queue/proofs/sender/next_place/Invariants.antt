use Rattle.std.proofs.Common.{◌≡◌}
use Rattle.station_queue.proofs.sender.next_place.Given as goal

abbrev pub invariant-loop : goal.invariant-loop
invariant-loop g l = l.back ≡ l.initial.back
