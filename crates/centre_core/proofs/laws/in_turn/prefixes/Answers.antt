use Rattle.centre_core.proofs.InTurnLaws.{lands_more, left_more}
use Rattle.centre_core.proofs.JoinedLaws.{lands_prefix, left_prefix}
use Rattle.centre_core.proofs.laws.in_turn.prefixes.Goals as goal

pub returns : goal.returns
returns g c = record { longer = lands_more; shorter = lands_prefix; left_longer = left_more; left_shorter = left_prefix }
