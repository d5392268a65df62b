use Rattle.std.proofs.Common.{rules, ◌≡◌, ◌<◌, ◌+◌, ◌*◌, length, take, arith}
use Rattle.identity.specs.NumberText.{value}
use Rattle.identity.proofs.NumberText.{all_more, digit_more, prefix_below}
use Rattle.identity.proofs.number_text.digits_in.Goals as goal

pub overflow_mul-value : goal.overflow_mul-value
overflow_mul-value c =
    let small = prefix_below c.args.text.now c.loop-byte.byte-index c.loop-byte.value c.loop-byte.invariant.1 (omega (arith, c.loop-byte-test.true)) c.requires.few c.loop-byte.invariant.0 in
    omega (arith, small)

pub overflow_add-value : goal.overflow_add-value
overflow_add-value c =
    let small = prefix_below c.args.text.now c.loop-byte.byte-index c.loop-byte.value c.loop-byte.invariant.1 (omega (arith, c.loop-byte-test.true)) c.requires.few c.loop-byte.invariant.0 in
    omega (arith, small, c.if-digit-gt9.false)

pub loop-byte-preserved : goal.loop-byte-preserved
loop-byte-preserved c =
    let text = c.args.text.now in let i = c.loop-byte.byte-index in
    let inside : i < length text = omega (arith, c.loop-byte-test.true) in
    let more = digit_more text i inside (search rules) in
    let is : 10 * c.loop-byte.value + c.digit_of-digit.result ≡ value (take (i + 1) text) =
    omega (arith, more, c.loop-byte.invariant.0, c.digit_of-digit.ensures.value (omega (arith, c.if-digit-gt9.false))) in
    (is, all_more text i c.loop-byte.invariant.1 inside (search rules))
