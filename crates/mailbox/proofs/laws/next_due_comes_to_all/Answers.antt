use Rattle.std.proofs.Common.{arith}
use Rattle.std.specs.List.{filter}
use Rattle.std.proofs.lemmas.List.Kept.{AllPairs-filter}
use Rattle.prefix_tree.proofs.Following.{all_one_by_one}
use Rattle.mailbox.specs.Item.{is_expired}
use Rattle.mailbox.specs.Order.{IsBefore, named_cmp, named}
use Rattle.mailbox.proofs.Keys.{named_total}
use Rattle.mailbox.proofs.Lists.{no_longer}
use Rattle.mailbox.proofs.laws.next_due_comes_to_all.Goals as goal

pub returns : goal.returns
returns c count moment m n mail le =
    let fewer = no_longer (is_expired moment) m.items in
    all_one_by_one named_cmp named_total named (filter (is_expired moment) m.items) n (AllPairs-filter IsBefore (is_expired moment) m.items mail.ordered) (omega (arith, le, fewer))
