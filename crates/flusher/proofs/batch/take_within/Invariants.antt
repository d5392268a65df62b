use Rattle.std.proofs.Common.{◌≡◌}
use Rattle.flusher.proofs.batch.take_within.Given as goal

abbrev pub invariant-loop : goal.invariant-loop
invariant-loop g l =
    (l.taker.taken ≡ l.initial.taker.taken)
    × (l.taker.queue ≡ l.initial.taker.queue)
    × (l.taker.made ≡ l.initial.taker.made)
    × (l.taker.settled ≡ l.initial.taker.settled)
