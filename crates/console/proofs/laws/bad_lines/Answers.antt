use Rattle.console.proofs.Judged.{bad_lines}
use Rattle.console.proofs.laws.bad_lines.Goals as goal

pub returns : goal.returns
returns g c = bad_lines _
