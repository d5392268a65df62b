use Rattle.centre_core.proofs.StepLaws.{only_accepted_change}
use Rattle.centre_core.proofs.laws.only_accepted_change.Goals as goal

pub returns : goal.returns
returns g c = only_accepted_change _
