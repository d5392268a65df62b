use Rattle.std.proofs.Common.{◌∙◌}
use Rattle.std.specs.List.{list_all}
use Rattle.std.specs.Ordering.{is_lt}
use Rattle.mailbox.specs.Values.{Item}
use Rattle.mailbox.specs.Order.{named, named_cmp}
use Rattle.image_rows.proofs.Judged.{last_stated}
use Rattle.image_rows.proofs.judging.comes_last.Goals as goal

pub returns : goal.returns
returns g c =
    last_stated (λ (o : Item). named_cmp (named o) (c.number.result, c.key.result)) c.args.mail.now.items c.is_next.result c.is_next.ensures.0 c.is_next.ensures.1
    ∙ (λ i. list_all (λ (o : Item). is_lt (named_cmp (named o) (c.number.ensures i, c.key.ensures i))) c.args.mail.now.items)
