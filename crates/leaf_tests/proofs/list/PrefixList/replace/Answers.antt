use Rattle.leaf_tests.proofs.Places.{get_found, get_absent, found_at, gap_at, set_in_order, set_is_insert}
use Rattle.leaf_tests.proofs.list.PrefixList.replace.Goals as goal

pub invariant_of-self : goal.invariant_of-self
invariant_of-self g c =
    let at = found_at c.self.inside.entries.items _ _ _ c.deref.ensures.value c.in-Ok.ensures.within c.in-Ok.ensures.place in
    set_in_order c.self.inside.entries.items _ _ _ _ c.self.invariant at c.index_mut.ensures.value

pub returns-in-Ok-clause-before : goal.returns-in-Ok-clause-before
returns-in-Ok-clause-before g c =
    let at = found_at c.self.inside.entries.items _ _ _ c.deref.ensures.value c.in-Ok.ensures.within c.in-Ok.ensures.place in
    rw c.replace.ensures.value (get_found c.self.inside.entries.items _ _ _ _ c.self.view_is c.self.invariant at c.index_mut.ensures.value)

pub returns-in-Ok-clause-there : goal.returns-in-Ok-clause-there
returns-in-Ok-clause-there g c =
    let at = found_at c.self.inside.entries.items _ _ _ c.deref.ensures.value c.in-Ok.ensures.within c.in-Ok.ensures.place in
    set_is_insert c.self.inside.entries.items _ _ _ _ _ _ c.self.view_is c.self.invariant at c.index_mut.ensures.value c.replace.ensures.after

pub returns-in-Err-clause-before : goal.returns-in-Err-clause-before
returns-in-Err-clause-before g c =
    let gap = gap_at c.self.inside.entries.items _ _ _ c.deref.ensures.value c.self.invariant c.in-Err.ensures.within c.in-Err.ensures.place in
    get_absent c.self.inside.entries.items _ _ _ c.self.view_is c.self.invariant gap
