use Rattle.std.proofs.Common.{sym}
use Rattle.prefix_tree.proofs.LazyLaws.{nothing_in}
use Rattle.prefix_tree.proofs.lazy.LazyMap.find.Goals as goal

pub returns-in-None : goal.returns-in-None
returns-in-None g c = sym (nothing_in _ _ _ c.self.view_is c.in-None.is)
