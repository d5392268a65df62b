use Rattle.std.proofs.Common.{◌≡◌, ◌+◌, sym, ◌∙◌, arith}
use Rattle.std.specs.FinMap as map
use Rattle.prefix_tree.specs.Inside.Counts.{len_gone, len_same}
use Rattle.registration.proofs.registry.Registry.clear_rule.Goals as goal

pub overflow_sub-self : goal.overflow_sub-self
overflow_sub-self g c = let gone : c.self.inside.rule_count ≡ map.len c.take.new.self + 1 = c.self.invariant.0 ∙
    len_gone _ _ _ _ c.in-Some.ensures.before c.in-Some.ensures.removed in omega (arith, gone)

pub invariant_of-self : goal.invariant_of-self
invariant_of-self g c = let gone : c.self.inside.rule_count ≡ map.len c.take.new.self + 1 = c.self.invariant.0 ∙
    len_gone _ _ _ _ c.in-Some.ensures.before c.in-Some.ensures.removed in (omega (arith, gone), c.self.invariant.1, c.self.invariant.2)

pub invariant_of-self-in-None : goal.invariant_of-self-in-None
invariant_of-self-in-None g c = (c.self.invariant.0 ∙ sym (len_same _ _ _ c.in-None.ensures.before c.in-None.ensures.removed), c.self.invariant.1, c.self.invariant.2)
