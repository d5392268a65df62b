use Rattle.station_queue.proofs.Returning.{gets}
use Rattle.station_queue.proofs.places.Return.get.Goals as goal

pub try_pop_as-requires-clause-rule : goal.try_pop_as-requires-clause-rule
try_pop_as-requires-clause-rule c = gets _ _
