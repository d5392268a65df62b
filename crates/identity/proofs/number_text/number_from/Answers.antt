use Rattle.std.proofs.Common.{rules, ◌≡◌, ◌<◌, ◌≤◌, ◌+◌, ◌*◌, length, take, arith, ap, ◌∙◌, sym, true}
use Rattle.std.specs.Char.{is_ascii_digit}
use Rattle.std.specs.List.{list_all}
use Rattle.std.proofs.lemmas.List.{take_all}
use Rattle.identity.specs.NumberText.{value}
use Rattle.identity.proofs.NumberText.{all_more, digit_more}
use Rattle.identity.proofs.ShortTexts.{digits_alone, digits_small}
use Rattle.identity.proofs.number_text.number_from.Goals as goal

pub overflow_mul-number : goal.overflow_mul-number
overflow_mul-number c =
    let small = digits_small c.args.text.now c.loop-at.at c.loop-at.number c.loop-at.invariant.1 (omega (arith, c.loop-at-test.true)) c.requires.few c.loop-at.invariant.0 in
    omega (arith, small)

pub overflow_add-number : goal.overflow_add-number
overflow_add-number c =
    let small = digits_small c.args.text.now c.loop-at.at c.loop-at.number c.loop-at.invariant.1 (omega (arith, c.loop-at-test.true)) c.requires.few c.loop-at.invariant.0 in
    omega (arith, small, c.if-digit-gt9.false)

pub loop-at-preserved : goal.loop-at-preserved
loop-at-preserved c =
    let text = c.args.text.now in let i = c.loop-at.at in
    let inside : i < length text = omega (arith, c.loop-at-test.true) in
    let more = digit_more text i inside (search rules) in
    let is : 10 * c.loop-at.number + c.digit_of-digit.result ≡ value (take (i + 1) text) =
    omega (arith, more, c.loop-at.invariant.0, c.digit_of-digit.ensures.value (omega (arith, c.if-digit-gt9.false))) in
    let all : list_all is_ascii_digit (take (i + 1) text) ≡ true = all_more text i c.loop-at.invariant.1 inside (search rules) in
    let low : i + 1 ≤ length text = omega (arith, inside) in
    (is, all, low)

pub returns-clause-value : goal.returns-clause-value
returns-clause-value c =
    let text = c.args.text.now in
    let all : take c.loop-at.at text ≡ text = take_all c.loop-at.at text (omega (arith, c.loop-at-test.false)) in
    digits_alone text (sym (ap (list_all is_ascii_digit) all) ∙ c.loop-at.invariant.1)
