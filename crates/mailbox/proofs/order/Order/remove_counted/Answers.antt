use Rattle.std.proofs.Common.{length, subst, sym, arith}
use Rattle.mailbox.specs.Inside.Places.{places_of, height_of, IsAbove}
use Rattle.mailbox.proofs.Heights.{lower}
use Rattle.mailbox.proofs.order.Order.remove_counted.Goals as goal

pub returns-then-is_some-clause-cost : goal.returns-then-is_some-clause-cost
returns-then-is_some-clause-cost g c height above =
    let root = c.self.inside.root in
    let most = lower (height_of root) (length (places_of root)) height c.height-low.ensures.low (subst (IsAbove height) (sym c.self.view_is) above) in
    let cost = c.remove_counted.ensures.cost in
    omega (arith, most, cost)

pub returns-else-is_some-clause-cost : goal.returns-else-is_some-clause-cost
returns-else-is_some-clause-cost g c height above =
    let root = c.self.inside.root in
    let most = lower (height_of root) (length (places_of root)) height c.height-low.ensures.low (subst (IsAbove height) (sym c.self.view_is) above) in
    let cost = c.remove_counted.ensures.cost in
    omega (arith, most, cost)
