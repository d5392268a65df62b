use Rattle.std.proofs.Common.{Some, ap, subst, ◌∙◌}
use Rattle.std.specs.Ordering.{nat_cmp}
use Rattle.std.specs.BTreeMap.{WritesThrough}
use Rattle.registration.proofs.ByNumber.{found_in, replaced_in}
use Rattle.registration.proofs.radios.Radios.replace.Goals as goal

pub returns-in_err-there-clause-before : goal.returns-in_err-there-clause-before
returns-in_err-there-clause-before g c = c.from_residual.ensures ∙ c.in_err-there.ensures.value ∙ found_in _ _ _ _ c.self.view_is c.self.invariant c.number.ensures.value c.number.ensures.below

pub returns-clause-before : goal.returns-clause-before
returns-clause-before g c = ap Some c.replace.ensures.value ∙ c.in_ok-there.ensures.value ∙ found_in _ _ _ _ c.self.view_is c.self.invariant c.number.ensures.value c.number.ensures.below

pub returns-clause-there : goal.returns-clause-there
returns-clause-there g c =
    replaced_in c.self.inside.by_number (c.get_mut.follows.lender c.replace.new.dest) _ _ _ _ _ c.self.view_is c.self.invariant c.number.ensures.value
    c.number.ensures.below c.in_ok-there.ensures.value
    (subst (λ radio. WritesThrough nat_cmp (nat_cmp c.number.result) c.self.inside.by_number radio (c.get_mut.follows.lender c.replace.new.dest))
    c.replace.ensures.after (c.get_mut.follows.holds c.replace.new.dest))
