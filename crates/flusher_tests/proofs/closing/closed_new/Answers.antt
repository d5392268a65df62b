use Rattle.flusher.specs.View.{view_of_flusher}
use Rattle.flusher_tests.proofs.TwoSessions.{ended_both}
use Rattle.flusher_tests.proofs.closing.closed_new.Goals as goal

pub closed_twice-closed-requires-clause-sessions : goal.closed_twice-closed-requires-clause-sessions
closed_twice-closed-requires-clause-sessions g c =
    let served = c.are_served-accepted.ensures in
    ended_both (view_of_flusher c.args.flusher) (view_of_flusher c.are_served-accepted.new.flusher) c.args.sessions.items _ _ _ _ c.finish_both-ended.result.items
    c.requires.sessions c.two_of-first.ensures served.first served.second c.finish_both-ended.ensures served.same
