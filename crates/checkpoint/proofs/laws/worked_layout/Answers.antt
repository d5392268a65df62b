use Rattle.checkpoint.proofs.Worked.{worked}
use Rattle.checkpoint.proofs.laws.worked_layout.Goals as goal

pub returns : goal.returns
returns c layout is = worked layout is
