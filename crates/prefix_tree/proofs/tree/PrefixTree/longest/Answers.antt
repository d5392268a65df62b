use Rattle.std.proofs.Common.{◌≡◌, length, ap, ◌∙◌, arith}
use Rattle.identity.specs.Inside.NumberLaws.{length-num}
use Rattle.identity.specs.Path.{id_path}
use Rattle.prefix_tree.specs.Table.{longest}
use Rattle.prefix_tree.specs.Visits.{nodes_on_way}
use Rattle.prefix_tree.proofs.VisitLaws.{way_is, few_on_way}
use Rattle.prefix_tree.proofs.tree.PrefixTree.longest.Goals as goal

pub returns-clause-found : goal.returns-clause-found
returns-clause-found g c = c.longest.ensures.found ∙ (λ i. longest (c.self.view_is i) (c.whole.ensures i))

pub returns-clause-visits : goal.returns-clause-visits
returns-clause-visits g c =
    let way = way_is c.self.inside.root.table _ c.self.inside.root.at c.whole.result c.self.invariant.0 c.self.view_is ∙ ap (nodes_on_way c.args.self.now) c.whole.ensures in
    omega (arith, way, c.longest.ensures.cost)

pub returns-clause-cost : goal.returns-clause-cost
unfolding id_path
returns-clause-cost g c =
    let way = way_is c.self.inside.root.table _ c.self.inside.root.at c.whole.result c.self.invariant.0 c.self.view_is in
    let few = few_on_way c.args.self.now c.whole.result in
    let long : length c.whole.result ≡ 48 = ap length c.whole.ensures ∙ length-num 48 c.args.identity in
    omega (arith, way, few, c.longest.ensures.cost, long)
