use Rattle.prefix_tree.proofs.Following.{all_one_by_one}
use Rattle.mailbox.specs.Order.{named_cmp, named}
use Rattle.mailbox.proofs.Keys.{named_total}
use Rattle.mailbox.proofs.laws.next_comes_to_all.Goals as goal

pub returns : goal.returns
returns c count m n mail le = all_one_by_one named_cmp named_total named m.items n mail.ordered le
