use Rattle.std.proofs.Common.{◌≡◌, None}
use Rattle.std.specs.Prelude.{replicate}
use Rattle.centre_core.proofs.last_accepted.none_accepted.Given as goal

abbrev pub invariant-loop : goal.invariant-loop
invariant-loop g l = l.served.items ≡ replicate l.counter None
