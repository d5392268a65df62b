use Rattle.station_queue.proofs.Steps.{forks}
use Rattle.station_queue.proofs.taker.Taker.sender.Goals as goal

pub another-pass-requires-clause-rule : goal.another-pass-requires-clause-rule
another-pass-requires-clause-rule c = forks _ _ c.fill.ensures.view.0
