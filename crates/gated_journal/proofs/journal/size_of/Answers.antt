use Rattle.std.proofs.Common.{arith}
use Rattle.gated_journal.proofs.journal.size_of.Goals as goal

pub overflow_add-size : goal.overflow_add-size
overflow_add-size g c = omega (arith, c.loop-command-test.true, c.loop-command.invariant.most, c.text_len-size.ensures.most, c.requires.small)
