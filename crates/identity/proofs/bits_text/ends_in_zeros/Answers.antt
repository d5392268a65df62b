use Rattle.std.proofs.Common.{◌≡◌, ◌-◌, ◌<◌, get_or, length, ap, ◌∙◌, arith}
use Rattle.std.specs.Char.{digit_value}
use Rattle.std.proofs.lemmas.Grind.{common_steps}
use Rattle.identity.proofs.BitsText.{zeros_at_end, zeros_of_none}
use Rattle.identity.proofs.bits_text.ends_in_zeros.Goals as goal

pub returns-in-None : goal.returns-in-None
returns-in-None c = zeros_of_none c.args.digits.now c.args.fill (omega (arith, c.in-None.ensures.item.3))

pub returns-in-Some : goal.returns-in-Some
returns-in-Some c =
    let some : 0 < length c.args.digits.now = grind (arith, common_steps, c.in-Some.ensures.item) in
    let last : c.in-Some.last.now ≡ get_or c.args.digits.now (length c.args.digits.now - 1) 0 = grind (arith, common_steps, c.in-Some.ensures.item) in
    zeros_at_end c.args.digits.now c.args.fill c.digit_of.result some c.requires.few (c.digit_of.ensures.value ∙ ap digit_value last)
