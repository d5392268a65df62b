use Rattle.std.proofs.Common.{sym, ◌∙◌}
use Rattle.prefix_tree.specs.Inside.Counts.{len_replaced}
use Rattle.registration.proofs.Whole.{replaced_whole}
use Rattle.registration.proofs.registry.Registry.renew.Goals as goal

pub invariant_of-self : goal.invariant_of-self
invariant_of-self g c = (
  c.self.invariant.0,
  c.self.invariant.1 ∙
      sym (len_replaced _ _ _ _ c.replace.result c.replace.ensures.before c.replace.ensures.there c.replace.ensures.absent),
  replaced_whole _ _ _ _ c.replace.result c.self.invariant.2 c.replace.ensures.there c.replace.ensures.absent,
)
