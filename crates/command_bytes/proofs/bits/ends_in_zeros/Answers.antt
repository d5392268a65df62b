use Rattle.std.proofs.Common.{◌≡◌, ◌-◌, ◌*◌, ◌<◌, ◌∙◌, get_or, length, arith, refl}
use Rattle.std.proofs.lemmas.Grind.{common_steps}
use Rattle.command_bytes.proofs.Packed.{fill_test, no_fill, power}
use Rattle.command_bytes.proofs.bits.ends_in_zeros.Goals as goal

pub returns-in-None : goal.returns-in-None
returns-in-None c = no_fill c.args.bytes.now c.args.len (omega (arith, c.in-None.ensures.item.3))

pub returns-in-Some : goal.returns-in-Some
returns-in-Some c =
    let some : 0 < length c.args.bytes.now = grind (arith, common_steps, c.in-Some.ensures.item) in
    let last : c.in-Some.last.now ≡ get_or c.args.bytes.now (length c.args.bytes.now - 1) 0 = grind (arith, common_steps, c.in-Some.ensures.item) in
    power c.from.result (8 * length c.args.bytes.now - c.args.len) (omega (arith, c.requires.tight)) ∙
    fill_test c.args.bytes.now c.args.len c.from.result (8 * length c.args.bytes.now - c.args.len) some c.requires.room c.requires.tight refl (c.from.ensures ∙ last)
