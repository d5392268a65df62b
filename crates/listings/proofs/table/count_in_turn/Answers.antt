use Rattle.std.proofs.Common.{ap, length, arith}
use Rattle.listings.specs.Inside.Walking.{entry_of}
use Rattle.listings.proofs.Walks.{all_left, one_left, none_left, out_of_turns}
use Rattle.listings.proofs.table.count_in_turn.Goals as goal

pub loop-passed-init : goal.loop-passed-init
loop-passed-init g c = omega (arith, ap length (all_left c.args.register.now c.args.table.now c.registers.ensures.state c.registers.ensures.ranges))

pub loop-passed-preserved : goal.loop-passed-preserved
loop-passed-preserved g c =
    let next = ap length (one_left c.args.register.now c.args.table.now c.loop-passed.passed c.loop-passed.after (entry_of c.in-Some.entry)
    c.place.result c.loop-passed-test.true c.in-Some.ensures c.place.ensures) in
    omega (arith, next, c.loop-passed.invariant)

pub returns-in_default : goal.returns-in_default
returns-in_default g c =
    let none = ap length (none_left c.args.register.now c.args.table.now c.loop-passed.passed c.loop-passed.after c.in_default.ensures) in
    omega (arith, none, c.loop-passed.invariant)

pub returns : goal.returns
returns g c =
    let none = ap length (out_of_turns c.args.register.now c.args.table.now c.loop-passed.passed c.loop-passed.after c.loop-passed-test.false) in
    omega (arith, none, c.loop-passed.invariant, c.loop-passed-test.false, c.loop-passed.auto.passed-end)
