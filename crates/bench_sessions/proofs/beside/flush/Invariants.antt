use Rattle.flusher.specs.View.{view_of_flusher}
use Rattle.flusher.specs.Served.{IsSettled}
use Rattle.bench_sessions.proofs.beside.flush.Given as goal

abbrev pub invariant-loop : goal.invariant-loop
invariant-loop g l = IsSettled g.J.Centre.base (view_of_flusher l.flusher)
