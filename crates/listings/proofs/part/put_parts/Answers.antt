use Rattle.std.proofs.Common.{arith}
use Rattle.base.proofs.Results.{on_err}
use Rattle.listings.specs.Parts.{part_text, part_room}
use Rattle.listings.proofs.Listed.{no_room, room_before}
use Rattle.listings.proofs.part.put_parts.Goals as goal

pub returns-in_err-put_part-clause-full : goal.returns-in_err-put_part-clause-full
returns-in_err-put_part-clause-full g c = on_err c.from_residual.result (no_room part_text c.args.parts.now c.loop-part.part-index c.part-item.result c.loop-part-test.true c.part-item.is
    c.args.out.now.items c.loop-part.out.items _ _ _ _ c.args.out.now.ok.0 c.loop-part.out.ok.0 c.loop-part.invariant.0 c.loop-part.invariant.1 c.in_err-put_part.ensures.full)

pub returns-in_err-put_part-clause-line : goal.returns-in_err-put_part-clause-line
returns-in_err-put_part-clause-line g c = on_err c.from_residual.result
    (let before = room_before part_room c.args.parts.now c.loop-part.part-index c.part-item.result c.loop-part-test.true c.part-item.is in
    omega (arith, before, c.loop-part.invariant.1, c.loop-part.invariant.2, c.in_err-put_part.ensures.full, c.put_part.ensures.fits))
