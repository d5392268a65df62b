use Rattle.recovery.proofs.Opened.{side_opens}
use Rattle.recovery.proofs.laws.side_opens.Goals as goal

pub returns : goal.returns
returns g c = side_opens {A = g.row.A.Denot}
