use Rattle.identity.proofs.Kept.{held_short, held_long}
use Rattle.identity.proofs.bits.Bits.held.Goals as goal

pub returns-then-self-le-IN_PLACE-clause-bits : goal.returns-then-self-le-IN_PLACE-clause-bits
returns-then-self-le-IN_PLACE-clause-bits g c =
    let b = c.self.inside in
    (held_short b.len b.short b.bytes.items c.args.self.now c.self.invariant c.self.view_is c.if-self-le-IN_PLACE.true).1

pub returns-else-self-le-IN_PLACE-clause-bits : goal.returns-else-self-le-IN_PLACE-clause-bits
returns-else-self-le-IN_PLACE-clause-bits g c =
    let b = c.self.inside in
    (held_long b.len b.short b.bytes.items c.args.self.now c.self.invariant c.self.view_is c.deref.result.now c.deref.ensures.value c.if-self-le-IN_PLACE.false).2
