use Rattle.std.proofs.Common.{◌∙◌, arith}
use Rattle.image_rows.proofs.PduTests.{octets_state, too_short, too_long}
use Rattle.image_rows.proofs.pdu.is_of_type.Goals as goal
use Rattle.image_rows.proofs.pdu.is_of_type.Goals.{then-len-octets-via-then-len-octets, then-len-octets-via-else-len-octets+then-len-gt-MOST_BITS}

pub returns : goal.returns
returns c =
    c.are_octets_of.ensures
    ∙ octets_state c.args.pdu.now c.args.kind c.args.octets c.args.reference c.octet-first.result c.octet-second.result c.octet-last.result
    c.octet-first.type_inv c.octet-second.type_inv c.octet-last.type_inv
    (omega (arith, c.if-len-octets.false, c.len-len.ensures)) (omega (arith, c.if-len-gt-MOST_BITS.false, c.len-len.ensures))
    c.octet-first.ensures c.octet-second.ensures c.octet-last.ensures

pub returns-then-len-octets : goal.returns-then-len-octets
returns-then-len-octets c =
    elim c.then-len-octets.branch [
      | then-len-octets-via-then-len-octets w ↦ too_short c.args.pdu.now c.args.kind c.args.octets c.args.reference (omega (arith, w.if-len-octets.true, c.len-len.ensures))
      | then-len-octets-via-else-len-octets+then-len-gt-MOST_BITS w ↦ too_long c.args.pdu.now c.args.kind c.args.octets c.args.reference (omega (arith, w.if-len-gt-MOST_BITS.true, c.len-len.ensures))
    ]
