use Rattle.flusher.specs.View.{view_of_flusher}
use Rattle.flusher.proofs.Runs.{ends_still, same_ends}
use Rattle.flusher_tests.proofs.closing.serve.Goals as goal

pub loop-init : goal.loop-init
loop-init g c = record { settled = c.requires.settled; same = same_ends (view_of_flusher c.args.flusher.now) }

pub loop-preserved : goal.loop-preserved
loop-preserved g c = record { settled = c.round.ensures.settled; same = ends_still _ _ _ _ c.loop.invariant.same c.round.ensures.round }
