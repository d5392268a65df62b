use Rattle.centre_core.proofs.JoinedLaws.{after_taken, taken_history}
use Rattle.centre_core.proofs.laws.in_turn.batches.Goals as goal

pub returns : goal.returns
returns g c = record { history = taken_history; state = after_taken }
