use Rattle.flusher.specs.View.{view_of_flusher}
use Rattle.flusher_tests.proofs.TwoSessions.{after_round}
use Rattle.flusher_tests.proofs.closing.closed_later.Goals as goal

pub close-requires-clause-sessions : goal.close-requires-clause-sessions
close-requires-clause-sessions g c =
    after_round (view_of_flusher c.args.flusher) (view_of_flusher c.round.new.self) g.J.Centre.base c.args.ended.items c.round.ensures.round c.requires.sessions
