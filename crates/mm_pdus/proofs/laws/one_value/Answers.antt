use Rattle.mm_pdus.proofs.UplinkLaws as uplink
use Rattle.mm_pdus.proofs.DownlinkLaws as downlink
use Rattle.mm_pdus.proofs.laws.one_value.Goals as goal

pub returns-clause-up : goal.returns-clause-up
returns-clause-up g c = uplink.one_value _

pub returns-clause-down : goal.returns-clause-down
returns-clause-down g c = downlink.one_value
