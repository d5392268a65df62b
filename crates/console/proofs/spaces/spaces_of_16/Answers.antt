use Rattle.std.proofs.Common.{arith}
use Rattle.console.proofs.Marks.{marked_chunk}
use Rattle.console.proofs.spaces.spaces_of_16.Goals as goal

pub returns : goal.returns
returns c = marked_chunk 32 c.args.line.now c.args.at 16 c.requires (omega arith)
