use Rattle.std.proofs.Common.{arith, sym}
use Rattle.command_line.proofs.Paired.{all_paired, last_alone}
use Rattle.command_line.proofs.reading.paired.Goals as goal

pub returns-then-words-eq0 : goal.returns-then-words-eq0
returns-then-words-eq0 c = sym (all_paired c.args.words.now _ _ (omega (arith, c.if-words-eq0.true)) c.in_ok-pairs.ensures)

pub returns : goal.returns
returns c = sym (last_alone c.args.words.now _ _ (omega (arith, c.if-words-eq0.false)) c.in_ok-pairs.ensures)
