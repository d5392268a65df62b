use Rattle.std.proofs.Common.{arith}
use Rattle.flusher.proofs.batch.size_of.Goals as goal

pub overflow_add-size : goal.overflow_add-size
overflow_add-size c = omega (arith, c.loop-command-test.true, c.loop-command.invariant.most, c.text_len-size.ensures.most, c.requires.few)
