use Rattle.console.proofs.Stored.{as_register}
use Rattle.console.proofs.laws.stored_as_register.Goals as goal

pub returns : goal.returns
returns g c = as_register
