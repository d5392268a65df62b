use Rattle.std.proofs.Common.{ap, sym, ◌∙◌}
use Rattle.std.specs.FinMap as finite
use Rattle.identity.specs.Path.{id_path}
use Rattle.mailbox.specs.Item.{is_at}
use Rattle.mailbox.specs.Inside.Boxes.{items_under, with_items}
use Rattle.mailbox.proofs.Lists.{nothing_left}
use Rattle.mailbox.proofs.boxes.remove_alone.Goals as goal

pub returns-in_err-inbox-clause-left : goal.returns-in_err-inbox-clause-left
returns-in_err-inbox-clause-left g c =
    let boxes = c.args.inboxes.now in let p = id_path c.args.key.now.destination in
    c.take.ensures.removed ∙ ap (finite.remove boxes) c.path.ensures ∙ sym (ap (with_items boxes p) (nothing_left (is_at c.args.key.now) (items_under boxes p) c.requires))

pub returns-clause-left : goal.returns-clause-left
returns-clause-left g c =
    let boxes = c.args.inboxes.now in let p = id_path c.args.key.now.destination in
    c.take.ensures.removed ∙ ap (finite.remove boxes) c.path.ensures ∙ sym (ap (with_items boxes p) (nothing_left (is_at c.args.key.now) (items_under boxes p) c.requires))
