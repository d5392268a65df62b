use Rattle.std.proofs.Common.{arith}
use Rattle.std.proofs.lemmas.Bool.Decides.{nat_tests}
use Rattle.identity.specs.Inside.PathLaws.{same_test}
use Rattle.identity.specs.Inside.PrefixInside.{same_if, same_then}
use Rattle.identity.proofs.prefix.Prefix.same.Goals as goal

pub returns-then-self-other-clause-equal : goal.returns-then-self-other-clause-equal
returns-then-self-other-clause-equal c = (
  λ t. same_if c.self.inside c.other.inside _ _ c.self.view_is c.other.view_is (grind (arith, nat_tests)) (grind (arith, nat_tests)),
  λ e. let h = same_then c.self.inside c.other.inside _ _ c.self.invariant.1 c.other.invariant.1 c.self.view_is c.other.view_is e in grind (arith, nat_tests, h.1),
)

pub returns-then-self-other-clause-test : goal.returns-then-self-other-clause-test
returns-then-self-other-clause-test c = let d = returns-then-self-other-clause-equal c in same_test _ _ _ d.0 d.1

pub returns-else-self-other-clause-equal : goal.returns-else-self-other-clause-equal
returns-else-self-other-clause-equal c = (
  λ t. same_if c.self.inside c.other.inside _ _ c.self.view_is c.other.view_is (grind (arith, nat_tests)) (grind (arith, nat_tests)),
  λ e. let h = same_then c.self.inside c.other.inside _ _ c.self.invariant.1 c.other.invariant.1 c.self.view_is c.other.view_is e in grind (arith, nat_tests, h.0),
)

pub returns-else-self-other-clause-test : goal.returns-else-self-other-clause-test
returns-else-self-other-clause-test c = let d = returns-else-self-other-clause-equal c in same_test _ _ _ d.0 d.1
