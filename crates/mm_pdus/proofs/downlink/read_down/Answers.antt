use Rattle.mm_pdus.proofs.DownlinkLaws.{is_spelt, is_found}
use Rattle.mm_pdus.proofs.downlink.read_down.Goals as goal

pub returns-clause-spelt : goal.returns-clause-spelt
returns-clause-spelt g c = is_spelt c.args.bits.now c.whole_down.result c.whole_down.ensures.given

pub returns-clause-found : goal.returns-clause-found
returns-clause-found g c = is_found c.args.bits.now c.whole_down.result c.whole_down.ensures.given
