use Rattle.group_attach.specs.Attached.{Pair}
use Rattle.group_attach.proofs.IndexFacts.{filed_cleared, is_cleared}
use Rattle.group_attach.proofs.index.Index+ByRadio+A.clear.Goals as goal

pub invariant_of-self : goal.invariant_of-self
invariant_of-self g c = filed_cleared (λ (pair : Pair). pair.0) c.self.inside.lists _ c.number.ensures.below c.self.invariant _ c.whole.ensures _ c.clear.ensures

pub returns : goal.returns
returns g c = rw (← c.number.ensures.value) (is_cleared (λ (pair : Pair). pair.0) c.self.inside.lists _ c.number.ensures.below c.self.invariant _ c.whole.ensures _ _ c.self.view_is c.clear.ensures)
