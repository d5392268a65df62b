use Rattle.mm_pdus.proofs.UplinkCutLaws as uplink
use Rattle.mm_pdus.proofs.DownlinkCutLaws as downlink
use Rattle.mm_pdus.proofs.laws.bits_missing.Goals as goal

pub returns-clause-up : goal.returns-clause-up
returns-clause-up g c = uplink.missing

pub returns-clause-down : goal.returns-clause-down
returns-clause-down g c = downlink.missing
