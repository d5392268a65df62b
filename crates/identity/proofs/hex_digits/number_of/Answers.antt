use Rattle.std.proofs.Common.{rules, ◌≡◌, ℕ, ◌<◌, ◌+◌, ◌*◌, ◌/◌, length, get_or, true, refl, sym, ap, ◌∙◌, arith}
use Rattle.std.specs.Char.{digit_value, is_ascii_hexdigit}
use Rattle.identity.specs.Number.{number}
use Rattle.identity.specs.BitsText.{digit_bits}
use Rattle.identity.proofs.BitsText.{hexadecimal_more, hexadecimal_two_more, digit_number_more, digits_number_more, number_found, pairs_below}
use Rattle.identity.proofs.hex_digits.number_of.Goals as goal

pub loop-i-init : goal.loop-i-init
unfolding number digit_bits
loop-i-init c = (refl, refl)

pub overflow_mul-value : goal.overflow_mul-value
overflow_mul-value c = let small = pairs_below c.args.text.now c.loop-i.i c.loop-i.value (omega (arith, c.loop-i-test.true, c.requires.few)) c.loop-i.invariant.0 in omega (arith, small)

pub overflow_add-value-in-loop-i : goal.overflow_add-value-in-loop-i
overflow_add-value-in-loop-i c =
    let small = pairs_below c.args.text.now c.loop-i.i c.loop-i.value (omega (arith, c.loop-i-test.true, c.requires.few)) c.loop-i.invariant.0 in
    omega (arith, small, c.digit_of.ensures.small, c.digit_of-in-loop-i.ensures.small)

pub loop-i-preserved : goal.loop-i-preserved
loop-i-preserved c =
    let text = c.args.text.now in let i = c.loop-i.i in let high = c.digit_of.result in let low = c.digit_of-in-loop-i.result in
    let inside : 2 * i + 1 < length text = omega (arith, c.loop-i-test.true) in
    let more = digits_number_more text i high low inside c.digit_of.ensures.value c.digit_of.ensures.small c.digit_of-in-loop-i.ensures.value c.digit_of-in-loop-i.ensures.small in
    (ap (λ (n : ℕ). 256 * n + (16 * high + low)) c.loop-i.invariant.0 ∙ sym more, hexadecimal_two_more text i c.loop-i.invariant.1 inside (search rules) (search rules))

pub overflow_mul-result : goal.overflow_mul-result
overflow_mul-result c =
    let odd : 2 * c.loop-i.i + 1 < 16 = omega (arith, c.loop-i-test.false, c.loop-i.auto.i-end, c.if-text-eq0.false, c.requires.few) in
    let small = pairs_below c.args.text.now c.loop-i.i c.loop-i.value odd c.loop-i.invariant.0 in
    omega (arith, small)

pub overflow_add-result : goal.overflow_add-result
overflow_add-result c =
    let odd : 2 * c.loop-i.i + 1 < 16 = omega (arith, c.loop-i-test.false, c.loop-i.auto.i-end, c.if-text-eq0.false, c.requires.few) in
    let small = pairs_below c.args.text.now c.loop-i.i c.loop-i.value odd c.loop-i.invariant.0 in
    omega (arith, small, c.digit_of-then-is_digit.ensures.small)

pub returns-then-is_digit : goal.returns-then-is_digit
returns-then-is_digit c =
    let text = c.args.text.now in let i = c.loop-i.i in let d = c.digit_of-then-is_digit.result in
    let place : 2 * (length text / 2) ≡ 2 * i = omega (arith, c.loop-i-test.false, c.loop-i.auto.i-end) in
    let last : 2 * i + 1 ≡ length text = omega (arith, c.loop-i-test.false, c.loop-i.auto.i-end, c.if-text-eq0.false) in
    let value : d ≡ digit_value (get_or text (2 * i) 0) = c.digit_of-then-is_digit.ensures.value ∙ ap (λ (n : ℕ). digit_value (get_or text n 0)) place in
    let form : is_ascii_hexdigit (get_or text (2 * (length text / 2)) 0) ≡ true = search rules in
    let form_there : is_ascii_hexdigit (get_or text (2 * i) 0) ≡ true = (rw place at form) in
    let more = digit_number_more text (2 * i) d (omega (arith, last)) value c.digit_of-then-is_digit.ensures.small in
    number_found text (2 * i + 1) (16 * c.loop-i.value + d) (omega (arith, last)) (ap (λ (n : ℕ). 16 * n + d) c.loop-i.invariant.0 ∙ sym more)
    (hexadecimal_more text (2 * i) c.loop-i.invariant.1 (omega (arith, last)) form_there)
