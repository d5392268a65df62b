use Rattle.std.proofs.Common.{sym, subst, ◌∙◌}
use mathlib.Core.Bool.{false≢true}
use Rattle.std.specs.Option.{IsSome}
use Rattle.registration.proofs.ByNumber.{found_in, small_with, inserted_in}
use Rattle.registration.proofs.radios.Radios.insert.Goals as goal

pub returns-in_err-before-clause-overwrite_succeeds : goal.returns-in_err-before-clause-overwrite_succeeds
returns-in_err-before-clause-overwrite_succeeds g c there =
    absurd (false≢true (subst IsSome (sym (found_in _ _ _ _ c.self.view_is c.self.invariant c.number.ensures.value c.number.ensures.below) ∙ c.in_err-before.ensures.absent) there))

pub invariant_of-self-2 : goal.invariant_of-self-2
invariant_of-self-2 g c = (c.in_ok-before.ensures.ordered, small_with _ _ _ _ c.self.invariant c.number.ensures.below c.in_ok-before.ensures.entries)

pub returns-clause-before : goal.returns-clause-before
returns-clause-before g c = c.in_ok-before.ensures.old ∙ found_in _ _ _ _ c.self.view_is c.self.invariant c.number.ensures.value c.number.ensures.below

pub returns-clause-ok : goal.returns-clause-ok
returns-clause-ok g c =
    inserted_in _ _ _ _ _ _ c.self.view_is c.self.invariant c.number.ensures.value c.number.ensures.below
    (small_with _ _ _ _ c.self.invariant c.number.ensures.below c.in_ok-before.ensures.entries) c.in_ok-before.ensures.updates.0
