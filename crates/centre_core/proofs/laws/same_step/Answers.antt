use Rattle.centre_core.proofs.SameLaws.{step_is_same}
use Rattle.centre_core.proofs.laws.same_step.Goals as goal

pub returns : goal.returns
returns g c = step_is_same g.row.B.Denot g.row.C.Denot
