use Rattle.std.proofs.Common.{◌∙◌, sym}
use Rattle.identity.proofs.Kept.{eight_kept, eight_same, short_same}
use Rattle.identity.proofs.bits.Bits.from_packed.Goals as goal

pub short-requires-clause-clear : goal.short-requires-clause-clear
short-requires-clause-clear g c =
    (eight_kept c.args.len c.args.bytes.now c.if-len-le-IN_PLACE.true c.requires c.first_eight.result c.first_eight.ensures).clear c.if-len-le-IN_PLACE.true

pub returns-then-len-le-IN_PLACE-clause-ok : goal.returns-then-len-le-IN_PLACE-clause-ok
returns-then-len-le-IN_PLACE-clause-ok g c =
    let few = c.if-len-le-IN_PLACE.true in
    c.short.ensures ∙ sym (short_same c.args.len c.first_eight.result c.args.bytes.now few)
    ∙ eight_same c.args.len c.args.bytes.now few c.requires c.first_eight.result c.first_eight.ensures
