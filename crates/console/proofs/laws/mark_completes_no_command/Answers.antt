use Rattle.console.proofs.NoCommand.{no_command}
use Rattle.console.proofs.laws.mark_completes_no_command.Goals as goal

pub returns : goal.returns
returns g c = no_command
