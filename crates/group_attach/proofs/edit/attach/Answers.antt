use Rattle.group_attach.specs.Attached.{pair_of}
use Rattle.group_attach.proofs.Places.{found_at, gap_at, set_in_order, set_is_insert, new_in_order, new_is_insert, not_in_gap, reports_found, reports_none}
use Rattle.group_attach.proofs.edit.attach.Goals as goal

pub returns-in-Ok-clause-in_order : goal.returns-in-Ok-clause-in_order
returns-in-Ok-clause-in_order g c =
    let at = found_at c.args.entries.now.items _ (pair_of c.args.attachment) _ c.deref.ensures.value c.in-Ok.ensures.within c.in-Ok.ensures.place in
    set_in_order c.args.entries.now.items c.args.attachment _ c.requires.in_order at

pub returns-in-Ok-clause-before : goal.returns-in-Ok-clause-before
returns-in-Ok-clause-before g c =
    let at = found_at c.args.entries.now.items _ (pair_of c.args.attachment) _ c.deref.ensures.value c.in-Ok.ensures.within c.in-Ok.ensures.place in
    reports_found c.args.entries.now.items (pair_of c.args.attachment) _ _ c.requires.in_order at c.index-before.ensures

pub returns-in-Ok-clause-ok : goal.returns-in-Ok-clause-ok
returns-in-Ok-clause-ok g c =
    let at = found_at c.args.entries.now.items _ (pair_of c.args.attachment) _ c.deref.ensures.value c.in-Ok.ensures.within c.in-Ok.ensures.place in
    set_is_insert c.args.entries.now.items c.args.attachment _ c.requires.in_order at

pub returns-in-Ok-insert-clause-in_order : goal.returns-in-Ok-insert-clause-in_order
returns-in-Ok-insert-clause-in_order g c =
    let gap = gap_at c.args.entries.now.items _ (pair_of c.args.attachment) _ c.deref.ensures.value c.requires.in_order c.in-Err.ensures.within c.in-Err.ensures.place in
    new_in_order c.args.entries.now.items _ c.args.attachment _ c.requires.in_order gap c.in-Ok-insert.ensures.items

pub returns-in-Ok-insert-clause-before : goal.returns-in-Ok-insert-clause-before
returns-in-Ok-insert-clause-before g c =
    let gap = gap_at c.args.entries.now.items _ (pair_of c.args.attachment) _ c.deref.ensures.value c.requires.in_order c.in-Err.ensures.within c.in-Err.ensures.place in
    reports_none c.args.entries.now.items (pair_of c.args.attachment) _ c.requires.in_order gap

pub returns-in-Ok-insert-clause-ok : goal.returns-in-Ok-insert-clause-ok
returns-in-Ok-insert-clause-ok g c =
    let gap = gap_at c.args.entries.now.items _ (pair_of c.args.attachment) _ c.deref.ensures.value c.requires.in_order c.in-Err.ensures.within c.in-Err.ensures.place in
    new_is_insert c.args.entries.now.items _ c.args.attachment _ c.requires.in_order gap c.in-Ok-insert.ensures.items

pub returns-in-Err-insert-clause-overwrites : goal.returns-in-Err-insert-clause-overwrites
returns-in-Err-insert-clause-overwrites g c =
    let gap = gap_at c.args.entries.now.items _ (pair_of c.args.attachment) _ c.deref.ensures.value c.requires.in_order c.in-Err.ensures.within c.in-Err.ensures.place in
    λ there. absurd (not_in_gap c.args.entries.now.items (pair_of c.args.attachment) _ c.requires.in_order gap there)
