use Rattle.centre_core.proofs.StateLaws.{step_is_next}
use Rattle.centre_core.proofs.laws.step_is_next.Goals as goal

pub returns : goal.returns
returns g c = step_is_next _
