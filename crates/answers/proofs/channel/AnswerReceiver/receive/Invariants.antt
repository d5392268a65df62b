use Rattle.std.proofs.Common.{◌≡◌}
use Rattle.crossbeam_channel.specs.Claims.{view}
use Rattle.crossbeam_channel.specs.Ends.{receives_on}
use Rattle.answers.proofs.channel.AnswerReceiver.receive.Given as goal

abbrev pub invariant-loop : goal.invariant-loop
invariant-loop g l = (receives_on l.self.channel ≡ receives_on l.initial.self.channel) × (view l.self.pass ≡ view l.initial.self.pass)
