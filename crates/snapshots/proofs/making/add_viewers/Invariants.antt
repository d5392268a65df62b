use Rattle.std.proofs.Common.{◌≡◌, []}
use Rattle.std.specs.Prelude.{All, length}
use Rattle.snapshots.proofs.making.add_viewers.Given as goal

abbrev pub invariant-loop : goal.invariant-loop
invariant-loop g l = (length l.viewers.items ≡ l.counter) × All (λ v. v ≡ []) l.viewers.items
