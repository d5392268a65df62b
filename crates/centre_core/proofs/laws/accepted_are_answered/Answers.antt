use Rattle.centre_core.proofs.UpdateLaws.{is_answered}
use Rattle.centre_core.proofs.laws.accepted_are_answered.Goals as goal

pub returns : goal.returns
returns c = λ update taken. is_answered update ((c.accepted_types.ensures update).0 taken)
