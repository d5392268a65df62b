use Rattle.std.proofs.Common.{arith}
use Rattle.std.proofs.lemmas.Grind.{common_steps}
use Rattle.identity.specs.IdentityText.{identity_text}
use Rattle.identity.proofs.display.write_identity.Goals as goal

pub returns : goal.returns
unfolding identity_text
returns g c = grind (arith, common_steps)
