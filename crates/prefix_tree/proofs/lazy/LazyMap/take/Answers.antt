use Rattle.std.proofs.Common.{◌∙◌, sym}
use Rattle.prefix_tree.proofs.LazyLaws.{nothing_in, nothing_out}
use Rattle.prefix_tree.proofs.lazy.LazyMap.take.Goals as goal

pub returns-in_default-clause-before : goal.returns-in_default-clause-before
returns-in_default-clause-before g c = sym (nothing_in _ _ _ c.self.view_is c.in_default.is)

pub returns-in_default-clause-removed : goal.returns-in_default-clause-removed
returns-in_default-clause-removed g c = c.self.view_is ∙ nothing_out _ _ _ c.self.view_is c.in_default.is
