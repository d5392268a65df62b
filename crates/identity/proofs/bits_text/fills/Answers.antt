use Rattle.std.proofs.Common.{◌≡◌, ◌≤◌, ◌*◌, ◌-◌, false, length, nat_lt, sym, ◌∙◌, arith}
use Rattle.identity.proofs.ShortForms.{too_many, as_filled}
use Rattle.identity.proofs.bits_text.fills.Goals as goal

pub returns-then-fill-lt4 : goal.returns-then-fill-lt4
returns-then-fill-lt4 c = as_filled c.args.digits.now c.args.len c.args.value c.requires.room c.requires.number (omega (arith, c.if-fill-lt4.true))

pub returns-else-fill-lt4 : goal.returns-else-fill-lt4
returns-else-fill-lt4 c =
    let many : 4 ≤ 4 * length c.args.digits.now - c.args.len = omega (arith, c.if-fill-lt4.false) in
    let no : nat_lt (4 * length c.args.digits.now - c.args.len) 4 ≡ false = grind (arith, many) in
    no ∙ sym (too_many c.args.digits.now c.args.len c.args.value c.requires.room c.requires.number many)
