use Rattle.prefix_tree.proofs.ListLaws.{all_followed}
use Rattle.prefix_tree.proofs.laws.next_comes_to_all.Goals as goal

pub returns : goal.returns
returns g c = all_followed
