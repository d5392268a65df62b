use Rattle.std.proofs.Common.{◌≡◌, rules}
use Rattle.mm_pdus.specs.Uplink.{canon_up}
use Rattle.mm_pdus.proofs.UplinkLaws.{canon_spells}
use Rattle.mm_pdus.proofs.uplink.write_up.Goals as goal

pub returns-clause-spelt : goal.returns-clause-spelt
returns-clause-spelt g c =
    let e : c.finish.result ≡ canon_up c.args.pdu.now = search rules in
    rw e (canon_spells c.args.pdu.now c.in_ok-put_up.ensures.range)
