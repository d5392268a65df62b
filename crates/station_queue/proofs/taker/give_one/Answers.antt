use Rattle.station_queue.proofs.Steps.{gives}
use Rattle.station_queue.proofs.taker.give_one.Goals as goal

pub another-pass-requires-clause-rule : goal.another-pass-requires-clause-rule
another-pass-requires-clause-rule c = gives _ _ c.requires.takes c.requires.some
