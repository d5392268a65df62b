use Rattle.std.proofs.Common.{None, refl, ◌∙◌}
use Rattle.prefix_tree.proofs.LazyLaws.{nothing_in, nothing_out}
use Rattle.prefix_tree.proofs.lazy.LazyMap.change.Goals as goal

pub returns-in_default : goal.returns-in_default
returns-in_default g c =
    (None, c.self.view_is ∙ nothing_out _ _ c.args.prefix.now c.self.view_is c.in_default.is, rw (nothing_in _ _ c.args.prefix.now c.self.view_is c.in_default.is) (refl, refl))
