use Rattle.station_queue.proofs.Returning.{begins, halves}
use Rattle.station_queue.proofs.places.opened.Goals as goal

pub ruled-requires-clause-rule : goal.ruled-requires-clause-rule
ruled-requires-clause-rule g c = begins

pub another-other-requires-clause-rule : goal.another-other-requires-clause-rule
another-other-requires-clause-rule g c = halves _ _ _ c.in_ok-returns.ensures.3
