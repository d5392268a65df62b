use Rattle.std.proofs.Common.{arith}
use Rattle.console.proofs.Marks.{all_spaces}
use Rattle.console.proofs.spaces.spaces_of.Goals as goal

pub returns-then-line-lt32 : goal.returns-then-line-lt32
returns-then-line-lt32 c = all_spaces c.args.line.now 16 _ _ c.spaces_of_16.ensures c.spaces_of_16-then-line-lt32.ensures c.requires.low (omega arith) c.requires.high

pub returns : goal.returns
returns c = all_spaces c.args.line.now 32 _ _ c.spaces_of_32.ensures c.spaces_of_32-2.ensures (omega arith) (omega arith) c.requires.high
