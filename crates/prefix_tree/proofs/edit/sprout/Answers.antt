use Rattle.std.proofs.Common.{refl}
use Rattle.prefix_tree.proofs.GrowLaws.{sprout_firm}
use Rattle.prefix_tree.proofs.edit.sprout.Goals as goal

pub returns-clause-firm : goal.returns-clause-firm
returns-clause-firm g c = sprout_firm c.leaf.result c.args.at c.args.value c.leaf.ensures.at (c.leaf.ensures.table c.args.value refl) c.leaf.ensures.sound
