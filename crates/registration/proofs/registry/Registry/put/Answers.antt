use Rattle.std.proofs.Common.{◌+◌, sym, ap, ◌∙◌}
use Rattle.prefix_tree.specs.Inside.Counts.{len_over, len_new}
use Rattle.registration.proofs.Whole.{one_whole}
use Rattle.registration.proofs.registry.Registry.put.Goals as goal

pub invariant_of-self : goal.invariant_of-self
invariant_of-self g c = (
  c.self.invariant.0,
  c.self.invariant.1 ∙
      sym (len_over _ _ _ _ _ (sym c.in-Ok-Some.field-0-is ∙ c.in-Ok-Some.ensures.before) c.in-Ok-Some.ensures.ok),
  one_whole _ _ _ _ c.self.invariant.2 c.in-Ok-Some.ensures.ok,
)

pub invariant_of-self-in-Ok-None : goal.invariant_of-self-in-Ok-None
invariant_of-self-in-Ok-None g c = (
  c.self.invariant.0,
  ap (λ n. n + 1) c.self.invariant.1 ∙
      sym (len_new _ _ _ _ (sym c.in-Ok-None.field-0-is ∙ c.in-Ok-None.ensures.before) c.in-Ok-None.ensures.ok),
  one_whole _ _ _ _ c.self.invariant.2 c.in-Ok-None.ensures.ok,
)
