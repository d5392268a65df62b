use Rattle.std.proofs.Common.{◌≡◌, ◌^◌, ◌<◌, ◌≤◌}
use Rattle.identity.specs.Number.{num}
use Rattle.prefix_tree.specs.Inside.Paths.{common}
use Rattle.prefix_tree.proofs.path.common.Given as goal

abbrev pub invariant-loop-a : goal.invariant-loop-a
invariant-loop-a l = (l.at ≤ 48) × (l.a < 2 ^ l.at) × (l.b < 2 ^ l.at) × (common l.fn.one l.fn.other ≡ common (num l.at l.a) (num l.at l.b))

abbrev pub decreases-loop-a : goal.decreases-loop-a
decreases-loop-a l = l.at
