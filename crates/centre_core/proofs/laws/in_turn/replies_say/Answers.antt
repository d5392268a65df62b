use Rattle.centre_core.proofs.RepliesSay.{replies_say}
use Rattle.centre_core.proofs.laws.in_turn.replies_say.Goals as goal

pub returns : goal.returns
returns g c = replies_say _
