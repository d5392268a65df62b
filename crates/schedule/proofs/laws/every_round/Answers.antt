use Rattle.schedule.proofs.Rounding.{rounds_run, idle_rounds_run}
use Rattle.schedule.proofs.laws.every_round.Goals as goal

pub returns : goal.returns
returns g c = record { sealed = rounds_run; idle = idle_rounds_run }
