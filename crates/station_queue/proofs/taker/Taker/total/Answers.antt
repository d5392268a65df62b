use Rattle.station_queue.proofs.Steps.{totals}
use Rattle.station_queue.proofs.taker.Taker.total.Goals as goal

pub learn_as-requires-clause-rule : goal.learn_as-requires-clause-rule
learn_as-requires-clause-rule c = totals _ _ c.self.invariant.1
