use Rattle.leaf_tests.proofs.Places.{get_found, get_absent, found_at, gap_at}
use Rattle.leaf_tests.proofs.Removal.{removed_in_order, removed_is, none_removed_is}
use Rattle.leaf_tests.proofs.list.PrefixList.remove.Goals as goal

pub invariant_of-self : goal.invariant_of-self
invariant_of-self g c = rw c.remove.ensures.items (removed_in_order c.self.inside.entries.items _ c.self.invariant)

pub returns-in-Ok-clause-before : goal.returns-in-Ok-clause-before
returns-in-Ok-clause-before g c =
    let at = found_at c.self.inside.entries.items _ _ _ c.deref.ensures.value c.in-Ok.ensures.within c.in-Ok.ensures.place in
    get_found c.self.inside.entries.items _ _ _ _ c.self.view_is c.self.invariant at c.remove.ensures.value

pub returns-in-Ok-clause-removed : goal.returns-in-Ok-clause-removed
returns-in-Ok-clause-removed g c =
    let at = found_at c.self.inside.entries.items _ _ _ c.deref.ensures.value c.in-Ok.ensures.within c.in-Ok.ensures.place in
    removed_is c.self.inside.entries.items _ _ _ _ c.self.view_is c.self.invariant at c.remove.ensures.items

pub returns-in-Err-clause-before : goal.returns-in-Err-clause-before
returns-in-Err-clause-before g c =
    let gap = gap_at c.self.inside.entries.items _ _ _ c.deref.ensures.value c.self.invariant c.in-Err.ensures.within c.in-Err.ensures.place in
    get_absent c.self.inside.entries.items _ _ _ c.self.view_is c.self.invariant gap

pub returns-in-Err-clause-removed : goal.returns-in-Err-clause-removed
returns-in-Err-clause-removed g c =
    let gap = gap_at c.self.inside.entries.items _ _ _ c.deref.ensures.value c.self.invariant c.in-Err.ensures.within c.in-Err.ensures.place in
    none_removed_is c.self.inside.entries.items _ _ _ c.self.view_is c.self.invariant gap
