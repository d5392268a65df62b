use Rattle.recovery.proofs.States.{states_decide}
use Rattle.recovery.proofs.laws.states_decide.Goals as goal

pub returns : goal.returns
returns g c = states_decide g.row.A.Denot
