use Rattle.std.proofs.Common.{arith}
use Rattle.prefix_tree.proofs.VisitLaws.{way_is, few_on_way}
use Rattle.prefix_tree.proofs.tree.PrefixTree.remove.Goals as goal

pub returns-clause-visits : goal.returns-clause-visits
returns-clause-visits g c =
    let way = way_is c.self.inside.root.table _ c.self.inside.root.at c.args.prefix.now c.self.invariant.0 c.self.view_is in
    omega (arith, way, c.change.ensures.cost, c.tick.ensures)

pub returns-clause-cost : goal.returns-clause-cost
returns-clause-cost g c =
    let way = way_is c.self.inside.root.table _ c.self.inside.root.at c.args.prefix.now c.self.invariant.0 c.self.view_is in
    let few = few_on_way c.args.self.now c.args.prefix.now in
    omega (arith, way, few, c.change.ensures.cost, c.tick.ensures, c.len.ensures.value, c.len.ensures.at_most_48)
