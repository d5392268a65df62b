use Rattle.std.proofs.Common.{◌≡◌, ◌+◌, ◌-◌, length}
use Rattle.std.specs.Prelude.{IsTrue}
use Rattle.std.specs.FinMap as map
use Rattle.std.specs.Option.{option_map}
use Rattle.identity.specs.Path.{Path, begins}
use Rattle.prefix_tree.specs.Table.{longest_below}
use Rattle.prefix_tree.specs.Visits.{visits_beyond}
use Rattle.prefix_tree.proofs.node.Node.longest.Given as goal

abbrev pub invariant-loop-here : goal.invariant-loop-here
invariant-loop-here g l =
    IsTrue (begins l.here.at l.key) × IsTrue l.here.sound × ((z : Path) → IsTrue (begins l.here.at z) → map.get l.here.table z ≡ map.get l.fn.self.table z)
    × (option_map (λ e. (e.0, e.1.now)) l.best ≡ longest_below l.fn.self.table l.key (length l.here.at))
    × (l.steps + visits_beyond l.here.table l.here.at l.key ≡ l.fn.steps + 1 + visits_beyond l.fn.self.table l.fn.self.at l.key)

abbrev pub decreases-loop-here : goal.decreases-loop-here
decreases-loop-here g l = length l.key - length l.here.at
