use Rattle.std.proofs.Common.{ap, ◌∙◌}
use Rattle.std.specs.FinMap as map
use Rattle.prefix_tree.specs.Inside.Around.{around}
use Rattle.prefix_tree.proofs.NodeLaws.{one_here}
use Rattle.prefix_tree.proofs.AroundLaws.{around_empty}
use Rattle.prefix_tree.proofs.node.Node.leaf.Goals as goal

pub returns-clause-table : goal.returns-clause-table
returns-clause-table g c v e = ap (λ o. around c.args.at o map.empty map.empty) e ∙ one_here c.args.at v

pub returns-clause-bare : goal.returns-clause-bare
returns-clause-bare g c e = ap (λ o. around c.args.at o map.empty map.empty) e ∙ around_empty _ c.args.at
