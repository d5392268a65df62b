use Rattle.std.specs.Ordering.{nat_cmp}
use Rattle.std.specs.Cmp.{nat_cmp_total}
use Rattle.prefix_tree.proofs.Following.{all_one_by_one}
use Rattle.group_attach.specs.Attached.{groups_of}
use Rattle.group_attach.proofs.Rising.{groups_rise}
use Rattle.group_attach.proofs.laws.next_comes_to_all_of_a_radio.Goals as goal

pub returns : goal.returns
returns c m itsi n le = all_one_by_one nat_cmp nat_cmp_total (λ a. a.gtsi) (groups_of m itsi) n (groups_rise m itsi) le
