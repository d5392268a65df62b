use Rattle.std.proofs.Common.{ap, ◌∙◌, arith}
use Rattle.std.specs.FinMap as map
use Rattle.prefix_tree.proofs.VisitLaws.{way_is, few_on_way}
use Rattle.prefix_tree.proofs.BorrowLaws.{on_some}
use Rattle.prefix_tree.proofs.BorrowFacts.{reported_alike}
use Rattle.prefix_tree.proofs.tree.PrefixTree.get_mut.Goals as goal

pub returns : goal.returns
returns g c =
    let way = way_is c.self.inside.root.table _ c.self.inside.root.at c.args.prefix.now c.self.invariant.0 c.self.view_is in
    let few = few_on_way c.args.self.now c.args.prefix.now in (
      reported_alike c.get_mut.result _ _ _ _
          (λ w. on_some c.get_mut.result (λ e. e ∙ ap (λ m. map.insert m c.args.prefix.now w) c.self.view_is) (c.get_mut.follows.holds w).0)
          (c.get_mut.follows.holds-at-none.0 ∙ c.self.view_is),
      record {
        writes_back = tt;
        value = c.get_mut.ensures.value ∙ ap (λ m. map.get m c.args.prefix.now) c.self.view_is;
        cost = omega (arith, way, few, c.get_mut.ensures.cost, c.len.ensures.value, c.len.ensures.at_most_48);
        visits = omega (arith, way, c.get_mut.ensures.cost);
      },
    )

pub invariant_of-self-lent : goal.invariant_of-self-lent
invariant_of-self-lent g c r = (
  λ w. ((c.get_mut.follows.holds w).1.at ∙ c.self.invariant.0, (c.get_mut.follows.holds w).1.sound c.self.invariant.1),
  (c.get_mut.follows.holds-at-none.1.at ∙ c.self.invariant.0, c.get_mut.follows.holds-at-none.1.sound c.self.invariant.1),
)
