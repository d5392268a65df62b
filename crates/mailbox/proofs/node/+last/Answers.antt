use Rattle.mailbox.proofs.Sides.{last_later}
use Rattle.mailbox.proofs.node.+last.Goals as goal

pub returns-in-Some-last : goal.returns-in-Some-last
returns-in-Some-last g t c = last_later _ _ _ c.in-Some.is c.deref.ensures c.parts.result.0.now c.parts.result.1.now c.parts.result.2.now c.parts.ensures.parts _ c.in-Some-last.ensures
