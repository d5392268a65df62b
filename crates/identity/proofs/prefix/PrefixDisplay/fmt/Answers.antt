use Rattle.std.proofs.Common.{arith}
use Rattle.std.proofs.lemmas.Grind.{common_steps}
use Rattle.identity.specs.IdentityText.{identity_text, prefix_text}
use Rattle.identity.proofs.prefix.PrefixDisplay.fmt.Goals as goal

pub returns-clause-writes : goal.returns-clause-writes
unfolding identity_text prefix_text
returns-clause-writes g c = grind (arith, common_steps)
