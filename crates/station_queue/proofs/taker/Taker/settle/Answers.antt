use Rattle.std.proofs.Common.{ap}
use Rattle.station_queue.proofs.Steps.{merges}
use Rattle.station_queue.proofs.taker.Taker.settle.Goals as goal

pub absorb-requires-clause-rule : goal.absorb-requires-clause-rule
absorb-requires-clause-rule c = merges _ _ _ _ c.self.invariant.1 (ap (λ v. v.sends) c.sender.invariant.1)
