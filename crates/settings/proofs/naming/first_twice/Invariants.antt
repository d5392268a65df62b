use Rattle.std.proofs.Common.{◌≡◌}
use Rattle.settings.specs.Naming.{first_twice, texts}
use Rattle.settings.proofs.Names.{twice_after}
use Rattle.settings.proofs.naming.first_twice.Given as goal

abbrev pub invariant-loop-index : goal.invariant-loop-index
invariant-loop-index l = first_twice (texts l.names) ≡ twice_after (texts l.names) l.index
