use Rattle.group_attach.specs.Attached.{Pair}
use Rattle.group_attach.proofs.IndexFacts.{filed_set, is_set, set_before, some_before}
use Rattle.group_attach.proofs.index.Index+ByRadio+A.set.Goals as goal

pub invariant_of-self : goal.invariant_of-self
invariant_of-self g c = filed_set (λ (pair : Pair). pair.0) c.self.inside.lists _ c.number.ensures.below c.self.invariant _ c.whole.ensures
    c.set.result _ c.args.list (rw c.number.ensures.value c.requires) c.set.ensures.ok c.set.ensures.err

pub returns-clause-before : goal.returns-clause-before
returns-clause-before g c =
    rw (← c.number.ensures.value)
    (set_before (λ (pair : Pair). pair.0) c.self.inside.lists _ c.number.ensures.below c.self.invariant _ c.whole.ensures c.set.result _
    c.self.view_is c.set.ensures.before)

pub returns-clause-ok : goal.returns-clause-ok
returns-clause-ok g c =
    rw (← c.number.ensures.value)
    (is_set (λ (pair : Pair). pair.0) c.self.inside.lists _ c.number.ensures.below c.self.invariant _ c.whole.ensures c.set.result _ _ c.args.list
    c.self.view_is (rw c.number.ensures.value c.requires) c.set.ensures.ok)

pub returns-clause-overwrites : goal.returns-clause-overwrites
returns-clause-overwrites g c = λ some.
    c.set.ensures.overwrites
    (some_before (λ (pair : Pair). pair.0) c.self.inside.lists _ c.number.ensures.below c.self.invariant _ c.whole.ensures _ c.self.view_is
    (rw c.number.ensures.value some))
