use Rattle.std.proofs.Common.{◌+◌, ◌++◌, [], ◌∷◌, Some, refl, ap, ◌∙◌, sym, arith, append_assoc}
use Rattle.std.specs.List.{flat_map}
use Rattle.std.proofs.lemmas.List.{append-nil}
use Rattle.base.proofs.Results.{on_err}
use Rattle.listings.specs.Entries.{entries_of}
use Rattle.listings.specs.Inside.Walking.{entry_of, place_of}
use Rattle.listings.specs.Dump.{dumped_line}
use Rattle.listings.proofs.Listed.{prefix_with_more}
use Rattle.listings.proofs.Turns.{one_more, all_put, none_for_all}
use Rattle.listings.proofs.Walks.{left, all_left, one_left, none_left, out_of_turns}
use Rattle.listings.proofs.dump.put_rows.Goals as goal

pub loop-init : goal.loop-init
loop-init g c = ([], sym (append-nil c.args.out.now.items), all_left c.args.register.now c.args.table.now c.registers.ensures.state c.registers.ensures.ranges, omega arith)

pub loop-preserved : goal.loop-preserved
loop-preserved g c =
    let s = c.args.register.now in
    let t = c.args.table.now in
    let so = c.loop.invariant in
    let e = entry_of c.in-Some.entry in
    let rest = left s t (c.loop.counter + 1) (Some c.place.result) in
    let next = one_left s t c.loop.counter c.loop.after e c.place.result c.loop-test.true c.in-Some.ensures c.place.ensures in (
      so.0 ++ e ∷ [],
      one_more (dumped_line c.args.register.now.groups) c.args.out.now.items c.loop.out.items c.put_row.new.out.items so.0 e so.1 c.in_ok-put_row.ensures.ok,
      append_assoc so.0 (e ∷ []) rest ∙ ap (λ l. so.0 ++ l) (sym next) ∙ so.2,
      omega (arith, so.3, c.put_row.ensures.capacity),
    )

pub returns-in_default-clause-ok : goal.returns-in_default-clause-ok
returns-in_default-clause-ok g c =
    let s = c.args.register.now in
    let t = c.args.table.now in
    let so = c.loop.invariant in
    all_put (dumped_line c.args.register.now.groups) c.args.out.now.items c.loop.out.items so.0 (left s t c.loop.counter c.loop.after)
    (entries_of s t) so.1 (none_left s t c.loop.counter c.loop.after c.in_default.ensures) so.2

pub returns-in_err-put_row-clause-err : goal.returns-in_err-put_row-clause-err
returns-in_err-put_row-clause-err g c =
    let so = c.loop.invariant in
    on_err c.from_residual.result
    (prefix_with_more c.args.out.now.items (flat_map (dumped_line c.args.register.now.groups) so.0) c.loop.out.items c.put_row.new.out.items so.1
    c.in_err-put_row.ensures.err)

pub returns-in_err-put_row-clause-full : goal.returns-in_err-put_row-clause-full
returns-in_err-put_row-clause-full g c =
    let s = c.args.register.now in
    let t = c.args.table.now in
    let so = c.loop.invariant in
    let e = entry_of c.in-Some.entry in
    let next = one_left s t c.loop.counter c.loop.after e (place_of e) c.loop-test.true c.in-Some.ensures refl in
    on_err c.from_residual.result
    (none_for_all (dumped_line c.args.register.now.groups) c.args.out.now.items c.loop.out.items so.0
    (left s t (c.loop.counter + 1) (Some (place_of e))) (left s t c.loop.counter c.loop.after) (entries_of s t) e _ _ _ _ so.1 next so.2
    c.args.out.now.ok.0 c.loop.out.ok.0 so.3 c.in_err-put_row.ensures.full)

pub returns-clause-ok : goal.returns-clause-ok
returns-clause-ok g c =
    let s = c.args.register.now in
    let t = c.args.table.now in
    let so = c.loop.invariant in
    all_put (dumped_line c.args.register.now.groups) c.args.out.now.items c.loop.out.items so.0 (left s t c.loop.counter c.loop.after)
    (entries_of s t) so.1 (out_of_turns s t c.loop.counter c.loop.after c.loop-test.false) so.2
