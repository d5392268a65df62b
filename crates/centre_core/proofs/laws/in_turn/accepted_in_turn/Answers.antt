use Rattle.centre_core.proofs.HistoryLaws.{counted}
use Rattle.centre_core.proofs.InTurnLaws.{kept_is_there, ended_are_named}
use Rattle.centre_core.proofs.laws.in_turn.accepted_in_turn.Goals as goal

pub returns : goal.returns
returns g c = record { counted = counted; kept = kept_is_there; ended = ended_are_named }
