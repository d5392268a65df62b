use Rattle.std.proofs.Common.{ap, sym, ◌∙◌}
use Rattle.std.specs.List.{list_any}
use Rattle.mailbox.specs.Item.{is_at}
use Rattle.mailbox.proofs.Results.{known_ok}
use Rattle.mailbox.proofs.Lists.{none_passes, filter_all}
use Rattle.mailbox.proofs.inbox.make_room.Goals as goal

pub returns-clause-ok : goal.returns-clause-ok
returns-clause-ok g c =
    let none = ap (list_any (is_at c.args.key.now)) (sym c.deref.ensures.value) ∙ sym c.any_at.ensures ∙ c.if-any_at.false in
    known_ok c.reserve.result (c.reserve.ensures.items ∙ sym (filter_all (is_at c.args.key.now) c.args.items.now.items (none_passes (is_at c.args.key.now) c.args.items.now.items none)))
