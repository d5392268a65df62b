use Rattle.schedule.proofs.Following.{rounds_follow, stops_follow}
use Rattle.schedule.proofs.laws.rounds_follow.Goals as goal

pub returns : goal.returns
returns g c = record { round = rounds_follow; stop = stops_follow }
