use Rattle.flusher.specs.View.{view_of_flusher}
use Rattle.flusher.specs.Served.{IsSettled}
use Rattle.flusher.specs.Runs.{HasSameEnds}
use Rattle.flusher_tests.proofs.closing.serve.Given as goal

abbrev pub invariant-loop : goal.invariant-loop
invariant-loop g l = record {
  settled : IsSettled g.J.Centre.base (view_of_flusher l.flusher);
  same : HasSameEnds (view_of_flusher l.initial.flusher) (view_of_flusher l.flusher);
}
