use Rattle.prefix_tree.proofs.Longest.{names_longest}
use Rattle.prefix_tree.proofs.laws.longest_is_the_longest.Goals as goal

pub returns : goal.returns
returns g c = names_longest
