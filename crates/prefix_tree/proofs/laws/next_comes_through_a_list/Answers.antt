use Rattle.prefix_tree.proofs.Following.{all_one_by_one}
use Rattle.prefix_tree.proofs.laws.next_comes_through_a_list.Goals as goal

pub returns : goal.returns
returns g c cmp key xs n total rise le = all_one_by_one cmp total key xs n rise le
