use Rattle.std.proofs.lemmas.Result.{on_ok_weaker}
use Rattle.mailbox.proofs.Pushed.{pushed}
use Rattle.mailbox.proofs.boxes.+push_items.Goals as goal

pub returns : goal.returns
returns g t c =
    on_ok_weaker c.push_items-2.result
    (pushed c.args.boxes.now _ _ _ c.in-Some.is c.deref.ensures c.parts.result.0.now c.parts.result.1.now c.parts.result.2.now c.parts.ensures.parts _
    _ _ _ _ c.in_ok-push_items.ensures c.in_ok-push_some.ensures c.item_at.ensures)
    c.push_items-2.ensures
