use Rattle.leaf_tests.proofs.Places.{get_found, get_absent, found_at, gap_at}
use Rattle.leaf_tests.proofs.list.PrefixList.get.Goals as goal

pub returns-in-Ok : goal.returns-in-Ok
returns-in-Ok g c =
    let at = found_at c.self.inside.entries.items _ _ _ c.deref.ensures.value c.in-Ok.ensures.within c.in-Ok.ensures.place in
    get_found c.self.inside.entries.items _ _ _ _ c.self.view_is c.self.invariant at c.index.ensures

pub returns-in-Err : goal.returns-in-Err
returns-in-Err g c =
    let gap = gap_at c.self.inside.entries.items _ _ _ c.deref.ensures.value c.self.invariant c.in-Err.ensures.within c.in-Err.ensures.place in
    get_absent c.self.inside.entries.items _ _ _ c.self.view_is c.self.invariant gap
