use Rattle.mm_pdus.proofs.DownlinkLaws.{wrong_flag}
use Rattle.mm_pdus.proofs.laws.rejection_reported_wrongly.Goals as goal

pub returns : goal.returns
returns g c = wrong_flag
