use Rattle.std.proofs.Common.{ap}
use Rattle.answers.proofs.Turns.{merges}
use Rattle.answers.proofs.channel.AnswerSender.settle.Goals as goal

pub absorb-requires-clause-rule : goal.absorb-requires-clause-rule
absorb-requires-clause-rule g c = merges _ _ _ _ (ap (λ v. v.sends) c.args.self.view_is) (ap (λ v. v.receives) c.args.receiver.view_is)
