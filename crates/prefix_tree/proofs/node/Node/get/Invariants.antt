use Rattle.std.proofs.Common.{◌≡◌, ◌+◌, ◌-◌, length}
use Rattle.std.specs.Prelude.{IsTrue}
use Rattle.std.specs.FinMap as map
use Rattle.identity.specs.Path.{begins}
use Rattle.prefix_tree.specs.Visits.{visits_beyond}
use Rattle.prefix_tree.proofs.node.Node.get.Given as goal

abbrev pub invariant-loop-here : goal.invariant-loop-here
invariant-loop-here g l =
    IsTrue (begins l.here.at l.key) × IsTrue l.here.sound × (map.get l.here.table l.key ≡ map.get l.fn.self.table l.key)
    × (l.steps + visits_beyond l.here.table l.here.at l.key ≡ l.fn.steps + 1 + visits_beyond l.fn.self.table l.fn.self.at l.key)

abbrev pub decreases-loop-here : goal.decreases-loop-here
decreases-loop-here g l = length l.key - length l.here.at
