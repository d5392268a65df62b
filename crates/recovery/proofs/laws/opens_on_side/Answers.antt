use Rattle.recovery.proofs.FromOpening.{opens_as}
use Rattle.recovery.proofs.laws.opens_on_side.Goals as goal

pub returns : goal.returns
returns g c = opens_as g.row.A.Denot
