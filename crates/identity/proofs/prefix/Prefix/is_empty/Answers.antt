use Rattle.std.proofs.Common.{arith}
use Rattle.std.proofs.lemmas.Bool.Decides.{nat_tests}
use Rattle.identity.specs.Inside.NumberLaws.{length-num}
use Rattle.identity.proofs.prefix.Prefix.is_empty.Goals as goal

pub returns : goal.returns
returns c = rw (← c.self.view_is, length-num) (λ t. grind (arith, nat_tests), λ e. grind (arith, nat_tests))
