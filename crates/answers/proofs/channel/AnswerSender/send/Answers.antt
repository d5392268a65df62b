use Rattle.std.proofs.Common.{ap}
use Rattle.answers.proofs.Turns.{sends, anything}
use Rattle.answers.proofs.channel.AnswerSender.send.Goals as goal

pub send_as-requires-clause-rule : goal.send_as-requires-clause-rule
send_as-requires-clause-rule g c = (sends _ _ _ _ (ap (λ v. v.sends) c.args.self.now.view_is), anything _ _)
