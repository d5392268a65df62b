use Rattle.schedule.proofs.Rounding.{crashed_rounds_run, crashed_checkpoints_run}
use Rattle.schedule.proofs.laws.crashed_rounds.Goals as goal

pub returns : goal.returns
returns g c = record { commit = crashed_rounds_run; checkpoint = crashed_checkpoints_run }
