use Rattle.mm_pdus.proofs.UplinkLaws as uplink
use Rattle.mm_pdus.proofs.DownlinkLaws as downlink
use Rattle.mm_pdus.proofs.laws.read_back.Goals as goal

pub returns-clause-spelt_up : goal.returns-clause-spelt_up
returns-clause-spelt_up g c = uplink.canon_spells

pub returns-clause-up : goal.returns-clause-up
returns-clause-up g c = uplink.read_back

pub returns-clause-spelt_down : goal.returns-clause-spelt_down
returns-clause-spelt_down g c = downlink.canon_spells

pub returns-clause-down : goal.returns-clause-down
returns-clause-down g c = downlink.read_back
