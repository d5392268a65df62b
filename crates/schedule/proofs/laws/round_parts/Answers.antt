use Rattle.schedule.proofs.Rounding.{seals_run, answers_run}
use Rattle.schedule.proofs.laws.round_parts.Goals as goal

pub returns : goal.returns
returns g c = record { seals = seals_run; answers = answers_run }
