use Rattle.std.proofs.Common.{sym, ◌∙◌}
use Rattle.station_queue.proofs.Returning.{gives}
use Rattle.station_queue.proofs.places.Return.give.Goals as goal

pub try_push_as-given-requires-clause-rule : goal.try_push_as-given-requires-clause-rule
try_push_as-given-requires-clause-rule c = gives _ _ _ _ (c.requires ∙ sym c.self.view_is)
