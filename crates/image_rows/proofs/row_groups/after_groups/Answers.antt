use Rattle.std.proofs.Common.{◌≡◌, arith, rules, None, Some}
use Rattle.image_rows.specs.RowText.{group_in}
use Rattle.image_rows.specs.RowReading.{group_at}
use Rattle.image_rows.proofs.GroupSteps.{passed_one, stopped, all_passed}
use Rattle.image_rows.proofs.row_groups.after_groups.Goals as goal

pub returns-in_default : goal.returns-in_default
returns-in_default c =
    let none : None ≡ group_at c.loop.rest.now = search rules in
    stopped c.args.count c.loop.counter c.args.bytes.now c.loop.rest.now c.loop-test.true none c.loop.invariant

pub loop-preserved : goal.loop-preserved
loop-preserved c =
    let is : Some (group_in c.in-Some._first, c.in-Some.after.now) ≡ group_at c.loop.rest.now = search rules in
    passed_one c.args.count c.loop.counter c.args.bytes.now c.loop.rest.now (group_in c.in-Some._first) c.in-Some.after.now c.loop-test.true is c.loop.invariant

pub returns : goal.returns
returns c = all_passed c.args.count c.loop.counter c.args.bytes.now c.loop.rest.now (omega (arith, c.loop-test.false)) c.loop.invariant
