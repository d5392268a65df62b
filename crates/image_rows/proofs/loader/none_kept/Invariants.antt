use Rattle.std.proofs.Common.{◌≡◌, None}
use Rattle.std.specs.Prelude.{replicate}
use Rattle.image_rows.proofs.loader.none_kept.Given as goal

abbrev pub invariant-loop : goal.invariant-loop
invariant-loop g l = l.served.items ≡ replicate l.counter None
