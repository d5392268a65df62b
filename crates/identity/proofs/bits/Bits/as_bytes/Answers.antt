use Rattle.identity.proofs.Kept.{given_short, given_long}
use Rattle.identity.proofs.bits.Bits.as_bytes.Goals as goal

pub returns-then-self-le-IN_PLACE-clause-packed : goal.returns-then-self-le-IN_PLACE-clause-packed
returns-then-self-le-IN_PLACE-clause-packed g c =
    let b = c.self.inside in
    (given_short b.len b.short b.bytes.items c.args.self.now c.self.invariant c.self.view_is c.div_ceil.result c.if-self-le-IN_PLACE.true c.div_ceil.ensures).0

pub returns-then-self-le-IN_PLACE-clause-bits : goal.returns-then-self-le-IN_PLACE-clause-bits
returns-then-self-le-IN_PLACE-clause-bits g c =
    let b = c.self.inside in
    (given_short b.len b.short b.bytes.items c.args.self.now c.self.invariant c.self.view_is c.div_ceil.result c.if-self-le-IN_PLACE.true c.div_ceil.ensures).1

pub returns-else-self-le-IN_PLACE-clause-packed : goal.returns-else-self-le-IN_PLACE-clause-packed
returns-else-self-le-IN_PLACE-clause-packed g c =
    let b = c.self.inside in
    (given_long b.len b.short b.bytes.items c.args.self.now c.self.invariant c.self.view_is c.deref.result.now c.deref.ensures.value c.if-self-le-IN_PLACE.false).0

pub returns-else-self-le-IN_PLACE-clause-bits : goal.returns-else-self-le-IN_PLACE-clause-bits
returns-else-self-le-IN_PLACE-clause-bits g c =
    let b = c.self.inside in
    (given_long b.len b.short b.bytes.items c.args.self.now c.self.invariant c.self.view_is c.deref.result.now c.deref.ensures.value c.if-self-le-IN_PLACE.false).1
