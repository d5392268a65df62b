use Rattle.centre_core.proofs.ReplyLaws.{accepted_are_numbered, resends_are_answered}
use Rattle.centre_core.proofs.laws.replies.Goals as goal

pub returns-clause-numbered : goal.returns-clause-numbered
returns-clause-numbered g c = accepted_are_numbered _

pub returns-clause-again : goal.returns-clause-again
returns-clause-again g c = resends_are_answered _
