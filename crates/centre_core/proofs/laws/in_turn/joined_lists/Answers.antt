use Rattle.centre_core.proofs.InTurnLaws.{after-append, history-append, history-prefix, history-rest}
use Rattle.centre_core.proofs.laws.in_turn.joined_lists.Goals as goal

pub returns : goal.returns
returns g c = record { after = after-append; whole = history-append; prefix = history-prefix; rest = history-rest }
