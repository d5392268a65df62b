use Rattle.std.proofs.Common.{◌+◌, sym, ap, ◌∙◌}
use Rattle.prefix_tree.specs.Inside.Counts.{len_over, len_new}
use Rattle.registration.proofs.registry.Registry.set_rule.Goals as goal

pub invariant_of-self : goal.invariant_of-self
invariant_of-self g c = (c.self.invariant.0 ∙ sym (len_over _ _ _ _ _ (sym c.in-Ok-Some.field-0-is ∙ c.in-Ok-Some.ensures.before) c.in-Ok-Some.ensures.ok), c.self.invariant.1, c.self.invariant.2)

pub invariant_of-self-in-Ok-None : goal.invariant_of-self-in-Ok-None
invariant_of-self-in-Ok-None g c = (
  ap (λ n. n + 1) c.self.invariant.0 ∙ sym (len_new _ _ _ _ (sym c.in-Ok-None.field-0-is ∙ c.in-Ok-None.ensures.before) c.in-Ok-None.ensures.ok),
  c.self.invariant.1,
  c.self.invariant.2,
)
