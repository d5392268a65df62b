use Rattle.std.proofs.Common.{rules, ◌≡◌, ◌<◌, ◌+◌, ◌*◌, length, take, arith}
use Rattle.identity.specs.NumberText.{value}
use Rattle.identity.proofs.NumberText.{all_more, digit_more}
use Rattle.identity.proofs.ShortTexts.{digits_small}
use Rattle.identity.proofs.number_text.number_before_dash.Goals as goal

pub overflow_mul-number : goal.overflow_mul-number
overflow_mul-number c =
    let small = digits_small c.args.text.now c.loop-at.at c.loop-at.number c.loop-at.invariant.1 (omega (arith, c.loop-at-test.true, c.if-text-le-CODE.false)) c.requires.few c.loop-at.invariant.0 in
    omega (arith, small)

pub overflow_add-number : goal.overflow_add-number
overflow_add-number c =
    let small = digits_small c.args.text.now c.loop-at.at c.loop-at.number c.loop-at.invariant.1 (omega (arith, c.loop-at-test.true, c.if-text-le-CODE.false)) c.requires.few c.loop-at.invariant.0 in
    omega (arith, small, c.if-digit-gt9.false)

pub loop-at-preserved : goal.loop-at-preserved
loop-at-preserved c =
    let text = c.args.text.now in let i = c.loop-at.at in
    let inside : i < length text = omega (arith, c.loop-at-test.true, c.if-text-le-CODE.false) in
    let more = digit_more text i inside (search rules) in
    let is : 10 * c.loop-at.number + c.digit_of-digit.result ≡ value (take (i + 1) text) =
    omega (arith, more, c.loop-at.invariant.0, c.digit_of-digit.ensures.value (omega (arith, c.if-digit-gt9.false))) in
    (is, all_more text i c.loop-at.invariant.1 inside (search rules))
