use Rattle.station_queue.proofs.Steps.{takes, anything}
use Rattle.station_queue.proofs.taker.Taker.take.Goals as goal

pub pop_as-found-requires-clause-rule : goal.pop_as-found-requires-clause-rule
pop_as-found-requires-clause-rule g c = (takes _ _ c.self.invariant.1, anything _ _)
