use Rattle.std.proofs.Common.{◌≡◌, ◌+◌, ◌*◌, ◌^◌, ◌<◌, take, arith, rules}
use Rattle.identity.specs.NumberText.{value}
use Rattle.identity.proofs.NumberText.{digits_more, short_below}
use Rattle.identity.proofs.number_text.short_value.Goals as goal

pub overflow_mul-value : goal.overflow_mul-value
overflow_mul-value c =
    let small = short_below c.args.digits.now c.loop-digit.digit-index c.loop-digit.value c.requires.digits (omega (arith, c.loop-digit-test.true)) c.requires.few c.loop-digit.invariant in
    omega (arith, small)

pub overflow_add-value : goal.overflow_add-value
overflow_add-value c =
    let small = short_below c.args.digits.now c.loop-digit.digit-index c.loop-digit.value c.requires.digits (omega (arith, c.loop-digit-test.true)) c.requires.few c.loop-digit.invariant in
    let byte : c.from.result < 2 ^ 8 = search rules in
    omega (arith, small, byte)

pub loop-digit-preserved : goal.loop-digit-preserved
loop-digit-preserved c =
    let text = c.args.digits.now in let i = c.loop-digit.digit-index in
    let more = digits_more text i c.requires.digits (omega (arith, c.loop-digit-test.true)) in
    let is : 10 * c.loop-digit.value + c.from.result ≡ value (take (i + 1) text) = omega (arith, more, c.loop-digit.invariant, c.from.ensures) in
    is
