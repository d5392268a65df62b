use Rattle.std.proofs.Common.{◌≡◌, ◌≤◌, decimal, drop, length, rules, ap, sym, ◌∙◌}
use Rattle.identity.proofs.ShortNumbers.{number_placed}
use Rattle.identity.proofs.number_text.put_before.Goals as goal

pub returns-clause-text : goal.returns-clause-text
returns-clause-text c =
    let long : length c.copy_from_slice.new.self ≡ 8 = search rules in
    let room : c.args.end ≤ length c.args.text.now = search rules in
    let digits : c.copy_from_slice.new.self ≡ c.eight_digits.result = search rules in
    let number : decimal c.args.number ≡ drop c.zeros_before.result c.copy_from_slice.new.self = c.zeros_before.ensures.text ∙
    ap (drop c.zeros_before.result) (sym c.eight_digits.ensures ∙ sym digits) in
    number_placed c.args.text.now c.copy_from_slice.new.self (decimal c.args.number) c.args.end c.zeros_before.result c.requires.low room long c.zeros_before.ensures.some number
