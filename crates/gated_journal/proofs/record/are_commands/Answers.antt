use Rattle.std.proofs.Common.{◌≡◌, ◌+◌, ◌-◌, suc, sym, ◌∙◌, arith}
use Rattle.gated_journal.proofs.Steps.{are_all, are_more, are_not}
use Rattle.gated_journal.proofs.record.are_commands.Goals as goal

pub returns-in-None : goal.returns-in-None
returns-in-None g c =
    let left : c.args.count - c.loop.counter ≡ suc (c.args.count - (c.loop.counter + 1)) = omega (arith, c.loop-test.true) in
    sym (are_not g.row.A.Denot (c.args.count - (c.loop.counter + 1)) c.loop.rest.now (sym c.in-None.ensures)) ∙ rw left at c.loop.invariant

pub loop-preserved : goal.loop-preserved
loop-preserved g c =
    let left : c.args.count - c.loop.counter ≡ suc (c.args.count - (c.loop.counter + 1)) = omega (arith, c.loop-test.true) in
    sym (are_more g.row.A.Denot (c.args.count - (c.loop.counter + 1)) c.loop.rest.now c.in-Some.after.now (sym c.in-Some.ensures)) ∙ rw left at c.loop.invariant

pub returns : goal.returns
returns g c =
    let left : c.args.count - c.loop.counter ≡ 0 = omega (arith, c.loop-test.false) in
    c.is_empty.ensures ∙ sym (are_all g.row.A.Denot c.loop.rest.now) ∙ rw left at c.loop.invariant
