use Rattle.std.proofs.Common.{ap}
use Rattle.answers.proofs.Turns.{receives, anything}
use Rattle.answers.proofs.channel.AnswerReceiver.ask.Goals as goal

pub try_recv_as-requires-clause-rule : goal.try_recv_as-requires-clause-rule
try_recv_as-requires-clause-rule g c = (receives _ _ (ap (λ v. v.receives) c.args.self.now.view_is), anything _ _)
