use Rattle.std.proofs.Common.{length, take, drop, ap, sym, ◌∙◌}
use Rattle.identity.specs.Number.{number}
use Rattle.identity.specs.Packed.{bits_of}
use Rattle.identity.proofs.Reading.{prefix_of}
use Rattle.identity.proofs.bits.Bits.number.Goals as goal

pub returns-clause-value : goal.returns-clause-value
returns-clause-value g c =
    let at = c.args.at in let w = c.args.width in
    c.number_at.ensures.value ∙
    ap number (sym (prefix_of (bits_of c.held.result.now) at (length c.args.self.now) w c.requires.room) ∙ ap (λ bits. take w (drop at bits)) c.held.ensures.bits)
