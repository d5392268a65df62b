use Rattle.recovery.proofs.Ranged.{opens_ranged}
use Rattle.recovery.proofs.laws.opens_in_range.Goals as goal

pub returns : goal.returns
returns g c = opens_ranged g.row.A.Denot
