use Rattle.command_bytes.proofs.Spelled.{none_begins}
use Rattle.command_bytes.proofs.laws.none_begins_another.Goals as goal

pub returns : goal.returns
returns g c = none_begins
