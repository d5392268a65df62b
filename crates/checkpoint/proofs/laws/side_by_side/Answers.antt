use Rattle.checkpoint.proofs.Worked.{side_by_side}
use Rattle.checkpoint.proofs.laws.side_by_side.Goals as goal

pub returns : goal.returns
returns c layout = side_by_side layout
