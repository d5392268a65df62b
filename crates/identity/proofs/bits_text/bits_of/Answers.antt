use Rattle.std.proofs.Common.{◌*◌, ◌%◌, length, ◌∙◌, arith}
use Rattle.base.proofs.Results.{on_err}
use Rattle.identity.proofs.BitsTexts.{many_bits}
use Rattle.identity.proofs.DigitBytes.{packed, parts, prefix}
use Rattle.identity.proofs.bits_text.bits_of.Goals as goal

pub packed-requires-clause-long : goal.packed-requires-clause-long
packed-requires-clause-long g c =
    let need = parts c.args.digits.now c.in_ok-bytes_of.field-0.items c.args.len (4 * (length c.args.digits.now % 2)) c.in_ok-bytes_of.ensures.bits c.requires.filled in
    omega (arith, c.requires.many, need.1)

pub packed-requires-clause-packed : goal.packed-requires-clause-packed
packed-requires-clause-packed g c =
    packed c.args.digits.now c.in_ok-bytes_of.field-0.items c.args.len (4 * (length c.args.digits.now % 2)) c.in_ok-bytes_of.ensures.bits c.requires.filled (omega arith) (omega arith)

pub returns-clause-ok : goal.returns-clause-ok
returns-clause-ok g c =
    c.packed.ensures ∙ prefix c.args.digits.now c.in_ok-bytes_of.field-0.items c.args.len (4 * (length c.args.digits.now % 2)) c.in_ok-bytes_of.ensures.bits c.requires.filled

pub returns-in_err-bytes_of-clause-memory : goal.returns-in_err-bytes_of-clause-memory
returns-in_err-bytes_of-clause-memory g c =
    on_err c.from_residual.result (many_bits c.args.len c.args.digits.now c.requires.many c.requires.filled)
