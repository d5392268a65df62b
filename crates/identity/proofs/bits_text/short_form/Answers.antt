use Rattle.std.proofs.Common.{◌≡◌, true, false, refl, sym, ◌∙◌, Some}
use Rattle.std.specs.Char.{is_ascii_hexdigit}
use Rattle.std.specs.List.{list_all}
use Rattle.identity.specs.Number.{number}
use Rattle.identity.specs.BitsText.{digit_bits, is_filled}
use Rattle.identity.proofs.Texts.{chosen_some}
use Rattle.identity.proofs.ShortForms.{len_counted, len_not_counted, len_not_hexadecimal, chosen_none}
use Rattle.identity.proofs.bits_text.short_form.Goals as goal

pub returns-in_default-clause-len : goal.returns-in_default-clause-len
returns-in_default-clause-len c =
    sym (len_not_hexadecimal c.args.count.now c.args.digits.now (chosen_none (list_all is_ascii_hexdigit c.args.digits.now) (number (digit_bits c.args.digits.now)) c.in_default.ensures))

pub returns-in_default-parse_number-clause-len : goal.returns-in_default-parse_number-clause-len
returns-in_default-parse_number-clause-len c =
    let digits = c.args.digits.now in
    let all = chosen_some (list_all is_ascii_hexdigit digits) (Some (number (digit_bits digits))) c.in-Some.value (sym c.in-Some.ensures) in
    sym (len_not_counted c.args.count.now digits c.in_default-parse_number.field-0 all.0 (sym c.in_default-parse_number.ensures))

pub fills-requires-clause-room : goal.fills-requires-clause-room
fills-requires-clause-room c =
    let digits = c.args.digits.now in
    let all = chosen_some (list_all is_ascii_hexdigit digits) (Some (number (digit_bits digits))) c.in-Some.value (sym c.in-Some.ensures) in
    (len_counted c.args.count.now digits c.in-Ok.len all.0 (sym c.in-Ok.ensures)).0

pub returns-then-fills-clause-len : goal.returns-then-fills-clause-len
returns-then-fills-clause-len c =
    let digits = c.args.digits.now in
    let n = c.in-Ok.len in
    let all = chosen_some (list_all is_ascii_hexdigit digits) (Some (number (digit_bits digits))) c.in-Some.value (sym c.in-Some.ensures) in
    let filled : is_filled n digits ≡ true = sym c.fills.ensures ∙ c.if-fills.true in
    sym ((len_counted c.args.count.now digits n all.0 (sym c.in-Ok.ensures)).1 ∙ rw filled refl)

pub returns-else-fills-clause-len : goal.returns-else-fills-clause-len
returns-else-fills-clause-len c =
    let digits = c.args.digits.now in
    let n = c.in-Ok.len in
    let all = chosen_some (list_all is_ascii_hexdigit digits) (Some (number (digit_bits digits))) c.in-Some.value (sym c.in-Some.ensures) in
    let other : is_filled n digits ≡ false = sym c.fills.ensures ∙ c.if-fills.false in
    sym ((len_counted c.args.count.now digits n all.0 (sym c.in-Ok.ensures)).1 ∙ rw other refl)
