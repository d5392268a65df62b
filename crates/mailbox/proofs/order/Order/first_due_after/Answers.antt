use Rattle.std.proofs.Common.{length, subst, sym}
use Rattle.std.specs.Prelude.{is_some}
use Rattle.mailbox.specs.Inside.Places.{places_of, height_of, IsAbove}
use Rattle.mailbox.proofs.Heights.{lower}
use Rattle.mailbox.proofs.DueSides.{root_steps}
use Rattle.mailbox.proofs.order.Order.first_due_after.Goals as goal

pub returns-clause-cost : goal.returns-clause-cost
returns-clause-cost g c height above =
    let root = c.self.inside.root in
    root_steps (is_some c.first_due_after.result) _ _ (height_of root) height
    (lower (height_of root) (length (places_of root)) height c.height-low.ensures.low (subst (IsAbove height) (sym c.self.view_is) above))
    c.first_due_after.ensures.cost
