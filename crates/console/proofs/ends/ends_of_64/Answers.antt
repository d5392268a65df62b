use Rattle.std.proofs.Common.{arith}
use Rattle.console.proofs.Marks.{marked_chunk}
use Rattle.console.proofs.ends.ends_of_64.Goals as goal

pub returns : goal.returns
returns c = marked_chunk 10 c.args.piece.now c.args.at 64 c.requires (omega arith)
