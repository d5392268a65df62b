use Rattle.std.proofs.Common.{[], true, false, length, ap, arith, rules}
use Rattle.prefix_tree.specs.Inside.Around.{IsUnder}
use Rattle.prefix_tree.proofs.CountLaws.{length_push}
use Rattle.prefix_tree.proofs.NodeLaws.{at_is, fits}
use Rattle.prefix_tree.proofs.StepLaws.{zero_any, one_any}
use Rattle.prefix_tree.proofs.NextLaws.{first_own, first_zero, first_one, none_first, first_is_there, longer_below}
use Rattle.prefix_tree.proofs.node.Node.+first.Goals as goal

pub first-returns-in-Some-clause-found : goal.first-returns-in-Some-clause-found
first-returns-in-Some-clause-found g t c = first_own c.self.inside _ c.self.view_is c.requires _ c.in-Some.is

pub first-returns-in-Some-clause-cost : goal.first-returns-in-Some-clause-cost
first-returns-in-Some-clause-cost g t c =
    let at = ap length (at_is c.self.inside _ c.self.view_is) in
    omega (arith, at, c.len.ensures.value, c.len.ensures.at_most_48, c.tick.ensures)

pub first-returns-in-Some-first_below-clause-found : goal.first-returns-in-Some-first_below-clause-found
first-returns-in-Some-first_below-clause-found g t c = first_zero c.self.inside _ c.self.view_is c.requires _ c.in_default.is c.in-Some-first_below.ensures.found

pub first-returns-in-Some-first_below-clause-cost : goal.first-returns-in-Some-first_below-clause-cost
first-returns-in-Some-first_below-clause-cost g t c =
    let at = ap length (at_is c.self.inside _ c.self.view_is) in
    let one_more = length_push c.self.inside.at false in
    let few = c.in-Some-first_below.ensures.cost _ (fits c.self.inside _ c.self.view_is c.requires).0 (omega (arith, one_more, c.len.ensures.value, c.len.ensures.at_most_48)) in
    omega (arith, at, one_more, few, c.tick.ensures)

pub first-returns-in-None-clause-found : goal.first-returns-in-None-clause-found
first-returns-in-None-clause-found g t c = first_one c.self.inside _ c.self.view_is c.requires _ c.in_default.is c.in-None.ensures.found c.first_below-in-None.ensures.found

pub first-returns-in-None-clause-cost : goal.first-returns-in-None-clause-cost
first-returns-in-None-clause-cost g t c =
    let at = ap length (at_is c.self.inside _ c.self.view_is) in
    let one_more = length_push c.self.inside.at true in
    let few = c.first_below-in-None.ensures.cost _ (fits c.self.inside _ c.self.view_is c.requires).1 (omega (arith, one_more, c.len.ensures.value, c.len.ensures.at_most_48)) in
    omega (arith, at, one_more, few, c.in-None.ensures.none, c.tick.ensures)

pub first_below-returns-in-Some-clause-cost : goal.first_below-returns-in-Some-clause-cost
first_below-returns-in-Some-clause-cost g t c p under short =
    let longer = longer_below c.args.link.now c.in-Some.node c.deref.result.now c.in-Some.is c.deref.ensures p under in
    omega (arith, longer, c.first.ensures.cost)

pub first_below-returns-in-Some-clause-none : goal.first_below-returns-in-Some-clause-none
first_below-returns-in-Some-clause-none g t c = first_is_there c.args.link.now c.in-Some.node c.deref.result.now c.in-Some.is c.deref.ensures _ _ _ c.requires c.first.ensures.found

pub first_below-returns-in-None-clause-found : goal.first_below-returns-in-None-clause-found
first_below-returns-in-None-clause-found g t c = none_first _ c.in-None.is

pub first-first_below-requires : goal.first-first_below-requires
first-first_below-requires g t c κs within = let under : IsUnder [] c.self.inside.zero = zero_any c.self.inside _ c.self.view_is c.requires in search (rules)

pub first-first_below-requires-in-None : goal.first-first_below-requires-in-None
first-first_below-requires-in-None g t c κs within = let under : IsUnder [] c.self.inside.one = one_any c.self.inside _ c.self.view_is c.requires in search (rules)
