use Rattle.schedule.proofs.Soundness.{one_borne, all_answered}
use Rattle.schedule.proofs.Stepping.{borne_more, batches_borne}
use Rattle.schedule.proofs.laws.borne_out.Goals as goal

pub returns : goal.returns
returns g c = record { answer_from = one_borne; answered = all_answered; longer = borne_more; batches = batches_borne }
