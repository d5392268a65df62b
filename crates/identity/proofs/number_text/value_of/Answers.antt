use Rattle.std.proofs.Common.{arith, sym}
use Rattle.identity.proofs.NumberText.{all_of_number, all_take, number_digit, value_more, value_large}
use Rattle.identity.proofs.number_text.value_of.Goals as goal

pub short_value-requires-clause-digits : goal.short_value-requires-clause-digits
short_value-requires-clause-digits c = all_take c.args.digits.now c.min-prefix.result (all_of_number c.args.digits.now c.requires.form)

pub returns-then-value-most : goal.returns-then-value-most
returns-then-value-most c = sym (value_large c.args.digits.now c.loop-at.at c.args.most (omega (arith, c.loop-at.invariant.0, c.if-value-most.true)))

pub overflow_sub-digits : goal.overflow_sub-digits
overflow_sub-digits c = (number_digit c.args.digits.now c.loop-at.at c.requires.form (omega (arith, c.loop-at-test.true))).0

pub loop-at-preserved : goal.loop-at-preserved
loop-at-preserved c =
    let more = value_more c.args.digits.now c.loop-at.at c.requires.form (omega (arith, c.loop-at-test.true)) in
    (omega (arith, more, c.loop-at.invariant.0, c.from.ensures), omega (arith, c.loop-at-test.true))
