use Rattle.std.proofs.Common.{[], true, false, length, sym, ap, ◌∙◌, arith, rules}
use Rattle.prefix_tree.specs.Inside.Around.{IsUnder}
use Rattle.prefix_tree.proofs.CountLaws.{length_push}
use Rattle.prefix_tree.proofs.StepLaws.{zero_any, one_any}
use Rattle.std.specs.Ordering.{is_lt}
use Rattle.base.proofs.Options.{if_none}
use Rattle.identity.specs.Path.{begins, path_cmp}
use Rattle.prefix_tree.proofs.NodeLaws.{at_is, at_box, fits}
use Rattle.prefix_tree.proofs.NextLaws.{past_zero, past_via_one, past_then_one, none_past, past_ahead, past_after, first_is_there, longer_below}
use Rattle.prefix_tree.proofs.node.Node.+past.Goals as goal

pub past-returns-in-Some-clause-found : goal.past-returns-in-Some-clause-found
past-returns-in-Some-clause-found g t c = past_zero c.self.inside _ c.self.view_is c.requires.sound _ c.requires.within _ c.in-Some.ensures.found

pub past-returns-in-Some-clause-cost : goal.past-returns-in-Some-clause-cost
past-returns-in-Some-clause-cost g t c =
    let at = ap length (at_is c.self.inside _ c.self.view_is) in
    let one_more = length_push c.self.inside.at false in
    let few = c.in-Some.ensures.cost _ (fits c.self.inside _ c.self.view_is c.requires.sound).0 (omega (arith, one_more, c.len.ensures.value, c.len.ensures.at_most_48)) in
    omega (arith, at, one_more, few, c.tick.ensures)

pub past-returns-in-None-clause-found : goal.past-returns-in-None-clause-found
past-returns-in-None-clause-found g t c =
    past_then_one c.self.inside _ c.self.view_is c.requires.sound _ c.requires.within (sym c.goes_on_with_one.ensures ∙ c.if-goes_on_with_one.false) _
    c.in-None.ensures.found c.first_below.ensures.found

pub past-returns-in-None-clause-cost : goal.past-returns-in-None-clause-cost
past-returns-in-None-clause-cost g t c =
    let at = ap length (at_is c.self.inside _ c.self.view_is) in
    let zero = length_push c.self.inside.at false in
    let one = length_push c.self.inside.at true in
    let left = c.in-None.ensures.none _ (fits c.self.inside _ c.self.view_is c.requires.sound).0 (omega (arith, zero, c.len.ensures.value, c.len.ensures.at_most_48)) in
    let few = c.first_below.ensures.cost _ (fits c.self.inside _ c.self.view_is c.requires.sound).1 (omega (arith, one, c.len.ensures.value, c.len.ensures.at_most_48)) in
    omega (arith, at, zero, one, left, few, c.tick.ensures)

pub past-returns-in-None-clause-none : goal.past-returns-in-None-clause-none
past-returns-in-None-clause-none g t c =
    let at = ap length (at_is c.self.inside _ c.self.view_is) in
    let zero = length_push c.self.inside.at false in
    let left = c.in-None.ensures.none _ (fits c.self.inside _ c.self.view_is c.requires.sound).0 (omega (arith, zero, c.len.ensures.value, c.len.ensures.at_most_48)) in
    if_none c.first_below.result (λ same. omega (arith, at, zero, left, same, c.tick.ensures)) c.first_below.ensures.none

pub past-returns-then-goes_on_with_one-clause-found : goal.past-returns-then-goes_on_with_one-clause-found
past-returns-then-goes_on_with_one-clause-found g t c =
    past_via_one c.self.inside _ c.self.view_is c.requires.sound _ (sym c.goes_on_with_one.ensures ∙ c.if-goes_on_with_one.true) _ c.past_below.ensures.found

pub past-returns-then-goes_on_with_one-clause-cost : goal.past-returns-then-goes_on_with_one-clause-cost
past-returns-then-goes_on_with_one-clause-cost g t c =
    let at = ap length (at_is c.self.inside _ c.self.view_is) in
    let one = length_push c.self.inside.at true in
    let few = c.past_below.ensures.cost _ (fits c.self.inside _ c.self.view_is c.requires.sound).1 (omega (arith, one, c.len.ensures.value, c.len.ensures.at_most_48)) in
    omega (arith, at, one, few, c.tick.ensures)

pub past-returns-then-goes_on_with_one-clause-none : goal.past-returns-then-goes_on_with_one-clause-none
past-returns-then-goes_on_with_one-clause-none g t c =
    let at = ap length (at_is c.self.inside _ c.self.view_is) in
    let one = length_push c.self.inside.at true in
    if_none c.past_below.result
    (λ least. let few = least _ (fits c.self.inside _ c.self.view_is c.requires.sound).1
    (omega (arith, one, c.len.ensures.value, c.len.ensures.at_most_48)) in omega (arith, at, one, few, c.tick.ensures))
    c.past_below.ensures.none

pub past_below-returns-in_default-clause-found : goal.past_below-returns-in_default-clause-found
past_below-returns-in_default-clause-found g t c = none_past _ _ c.in_default.is

pub past_below-returns-then-begins-clause-cost : goal.past_below-returns-then-begins-clause-cost
past_below-returns-then-begins-clause-cost g t c p under short =
    let longer = longer_below c.args.link.now c.in-Some.node c.deref-then-begins.result.now c.in-Some.is c.deref-then-begins.ensures p under in
    omega (arith, longer, c.past.ensures.cost)

pub past_below-returns-then-begins-clause-none : goal.past_below-returns-then-begins-clause-none
past_below-returns-then-begins-clause-none g t c =
    if_none c.past.result
    (λ least p under short. let longer = longer_below c.args.link.now c.in-Some.node c.deref-then-begins.result.now c.in-Some.is c.deref-then-begins.ensures p under in omega (arith, longer, least))
    c.past.ensures.none

pub past_below-returns-then-comes_before-clause-found : goal.past_below-returns-then-comes_before-clause-found
past_below-returns-then-comes_before-clause-found g t c =
    let low = at_box c.behind-node.inside _ c.behind-node.view_is _ c.deref.ensures in
    let low2 = at_box c.behind-node-2.inside _ c.behind-node-2.view_is _ c.deref-2.ensures in
    past_ahead _ c.in-Some.node c.args.key.now c.in-Some.is c.requires
    (ap (λ p. begins p c.args.key.now) (sym low) ∙ sym c.begins.ensures ∙ c.if-begins.false)
    _ _ c.deref-then-comes_before.ensures
    (sym c.if-comes_before.true ∙ c.comes_before.ensures.before ∙ ap (λ p. is_lt (path_cmp c.args.key.now p)) low2)
    c.first.ensures.found

pub past_below-returns-then-comes_before-clause-cost : goal.past_below-returns-then-comes_before-clause-cost
past_below-returns-then-comes_before-clause-cost g t c p under short =
    let longer = longer_below c.args.link.now c.in-Some.node c.deref-then-comes_before.result.now c.in-Some.is c.deref-then-comes_before.ensures p under in
    omega (arith, longer, short, c.first.ensures.cost)

pub past_below-returns-then-comes_before-clause-none : goal.past_below-returns-then-comes_before-clause-none
past_below-returns-then-comes_before-clause-none g t c =
    first_is_there c.args.link.now c.in-Some.node c.deref-then-comes_before.result.now c.in-Some.is c.deref-then-comes_before.ensures _ _ _ c.requires c.first.ensures.found

pub past_below-returns-clause-found : goal.past_below-returns-clause-found
past_below-returns-clause-found g t c =
    let low = at_box c.behind-node.inside _ c.behind-node.view_is _ c.deref.ensures in
    let low2 = at_box c.behind-node-2.inside _ c.behind-node-2.view_is _ c.deref-2.ensures in
    past_after _ c.in-Some.node c.args.key.now c.in-Some.is c.requires
    (ap (λ p. begins p c.args.key.now) (sym low) ∙ sym c.begins.ensures ∙ c.if-begins.false)
    (sym c.if-comes_before.false ∙ c.comes_before.ensures.before ∙ ap (λ p. is_lt (path_cmp c.args.key.now p)) low2)

pub past_below-returns-clause-cost : goal.past_below-returns-clause-cost
past_below-returns-clause-cost g t c p under short =
    let longer = longer_below c.args.link.now c.in-Some.node c.deref-2.result.now c.in-Some.is c.deref-2.ensures p under in
    let same = ap length (at_is c.behind-node-2.inside _ c.behind-node-2.view_is) in
    omega (arith, longer, same, c.comes_before.ensures.short, c.tick.ensures)

pub past_below-returns-clause-none : goal.past_below-returns-clause-none
past_below-returns-clause-none g t c p under short =
    let longer = longer_below c.args.link.now c.in-Some.node c.deref-2.result.now c.in-Some.is c.deref-2.ensures p under in
    let same = ap length (at_is c.behind-node-2.inside _ c.behind-node-2.view_is) in
    omega (arith, longer, same, c.comes_before.ensures.short, c.tick.ensures)

pub past-past_below-requires : goal.past-past_below-requires
past-past_below-requires g t c κs within = let under : IsUnder [] c.self.inside.one = one_any c.self.inside _ c.self.view_is c.requires.sound in search (rules)

pub past-past_below-requires-2 : goal.past-past_below-requires-2
past-past_below-requires-2 g t c κs within = let under : IsUnder [] c.self.inside.zero = zero_any c.self.inside _ c.self.view_is c.requires.sound in search (rules)

pub past-first_below-requires : goal.past-first_below-requires
past-first_below-requires g t c = one_any c.self.inside _ c.self.view_is c.requires.sound
