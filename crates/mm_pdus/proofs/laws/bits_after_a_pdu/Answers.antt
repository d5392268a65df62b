use Rattle.mm_pdus.proofs.UplinkLaws as uplink
use Rattle.mm_pdus.proofs.DownlinkLaws as downlink
use Rattle.mm_pdus.proofs.laws.bits_after_a_pdu.Goals as goal

pub returns-clause-up : goal.returns-clause-up
returns-clause-up g c = uplink.trailing

pub returns-clause-down : goal.returns-clause-down
returns-clause-down g c = downlink.trailing
