use Rattle.std.proofs.Common.{◌∙◌}
use Rattle.registration.proofs.ByNumber.{found_in, small_without, removed_in}
use Rattle.registration.proofs.radios.Radios.take.Goals as goal

pub invariant_of-self : goal.invariant_of-self
invariant_of-self g c = (c.remove.ensures.ordered, small_without _ _ c.number.result c.self.invariant c.remove.ensures.entries)

pub returns-clause-before : goal.returns-clause-before
returns-clause-before g c = c.remove.ensures.value ∙ found_in _ _ _ _ c.self.view_is c.self.invariant c.number.ensures.value c.number.ensures.below

pub returns-clause-removed : goal.returns-clause-removed
returns-clause-removed g c =
    removed_in _ _ _ _ _ c.self.view_is c.self.invariant c.number.ensures.value c.number.ensures.below
    (small_without _ _ c.number.result c.self.invariant c.remove.ensures.entries) c.remove.ensures.updates.0
