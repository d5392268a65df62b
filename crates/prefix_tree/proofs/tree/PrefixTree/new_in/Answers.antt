use Rattle.std.proofs.Common.{refl}
use Rattle.prefix_tree.proofs.tree.PrefixTree.new_in.Goals as goal

pub returns : goal.returns
returns g c = c.leaf.ensures.bare refl
