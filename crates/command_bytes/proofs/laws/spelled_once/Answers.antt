use Rattle.command_bytes.proofs.Spelled.{once}
use Rattle.command_bytes.proofs.laws.spelled_once.Goals as goal

pub returns : goal.returns
returns g c = once
