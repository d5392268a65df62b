use Rattle.std.proofs.Common.{arith}
use Rattle.std.proofs.lemmas.Grind.{common_steps}
use Rattle.identity.specs.BitsText.{bits_text}
use Rattle.identity.proofs.bits.BitsDisplay.fmt.Goals as goal

pub returns-clause-writes : goal.returns-clause-writes
unfolding bits_text
returns-clause-writes g c = grind (arith, common_steps)
