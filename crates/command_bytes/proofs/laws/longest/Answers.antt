use Rattle.command_bytes.proofs.Spelled.{short}
use Rattle.command_bytes.proofs.laws.longest.Goals as goal

pub returns : goal.returns
returns g c = short
