use Rattle.std.proofs.Common.{sym, subst}
use Rattle.std.specs.Option.{IsSome}
use Rattle.leaf_tests.proofs.Places.{get_found, get_absent, found_at, gap_at, set_in_order, set_is_insert, new_in_order, new_is_insert}
use Rattle.leaf_tests.proofs.list.PrefixList.insert.Goals as goal

pub invariant_of-self : goal.invariant_of-self
invariant_of-self g c =
    let at = found_at c.self.inside.entries.items _ _ _ c.deref.ensures.value c.in-Ok.ensures.within c.in-Ok.ensures.place in
    set_in_order c.self.inside.entries.items c.args.prefix _ _ _ c.self.invariant at c.index_mut.ensures.value

pub returns-in-Ok-clause-before : goal.returns-in-Ok-clause-before
returns-in-Ok-clause-before g c =
    let at = found_at c.self.inside.entries.items _ _ _ c.deref.ensures.value c.in-Ok.ensures.within c.in-Ok.ensures.place in
    rw c.replace.ensures.value (get_found c.self.inside.entries.items _ _ _ _ c.self.view_is c.self.invariant at c.index_mut.ensures.value)

pub returns-in-Ok-clause-ok : goal.returns-in-Ok-clause-ok
returns-in-Ok-clause-ok g c =
    let at = found_at c.self.inside.entries.items _ _ _ c.deref.ensures.value c.in-Ok.ensures.within c.in-Ok.ensures.place in
    set_is_insert c.self.inside.entries.items _ _ _ _ _ _ c.self.view_is c.self.invariant at c.index_mut.ensures.value c.replace.ensures.after

pub returns-in-Err-insert-clause-overwrite_succeeds : goal.returns-in-Err-insert-clause-overwrite_succeeds
returns-in-Err-insert-clause-overwrite_succeeds g c found =
    let gap = gap_at c.self.inside.entries.items _ _ _ c.deref.ensures.value c.self.invariant c.in-Err.ensures.within c.in-Err.ensures.place in
    subst IsSome (sym (get_absent c.self.inside.entries.items c.args.self.now c.args.prefix _ c.self.view_is c.self.invariant gap)) found

pub invariant_of-self-2 : goal.invariant_of-self-2
invariant_of-self-2 g c =
    let gap = gap_at c.self.inside.entries.items _ _ _ c.deref.ensures.value c.self.invariant c.in-Err.ensures.within c.in-Err.ensures.place in
    new_in_order c.self.inside.entries.items _ _ _ _ c.self.invariant gap c.in_default.ensures.items

pub returns-clause-before : goal.returns-clause-before
returns-clause-before g c =
    let gap = gap_at c.self.inside.entries.items _ _ _ c.deref.ensures.value c.self.invariant c.in-Err.ensures.within c.in-Err.ensures.place in
    get_absent c.self.inside.entries.items _ _ _ c.self.view_is c.self.invariant gap

pub returns-clause-ok : goal.returns-clause-ok
returns-clause-ok g c =
    let gap = gap_at c.self.inside.entries.items _ _ _ c.deref.ensures.value c.self.invariant c.in-Err.ensures.within c.in-Err.ensures.place in
    new_is_insert c.self.inside.entries.items _ _ _ _ _ c.self.view_is c.self.invariant gap c.in_default.ensures.items
