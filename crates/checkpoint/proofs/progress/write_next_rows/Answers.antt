use Rattle.std.proofs.Common.{◌≡◌, ◌∙◌, ℕ, ap, arith, subst, sym}
use Rattle.checkpoint.specs.Layout.{other_of, slot_at}
use Rattle.checkpoint.specs.Progress.{IsProgress}
use Rattle.checkpoint.proofs.Apart.{lies}
use Rattle.checkpoint.proofs.Imaged.{rows_have_room}
use Rattle.checkpoint.proofs.progress.write_next_rows.Goals as goal

pub put_rows-requires-clause-room : goal.put_rows-requires-clause-room
put_rows-requires-clause-room g c =
    let layout = c.args.layout.now in
    let place : c.slot.result ≡ slot_at layout (other_of c.args.current) = c.slot.ensures ∙ ap (slot_at layout) c.other.ensures in
    let places = lies layout (other_of c.args.current) in
    let fit = rows_have_room layout c.args.progress.now.epoch c.args.register.now c.registers.ensures.state c.requires.fits.limits in
    let room = c.requires.fits.room in
    omega (arith, place, fit, places.slot, places.half, room)

pub put_rows-requires-clause-fits : goal.put_rows-requires-clause-fits
put_rows-requires-clause-fits g c =
    let layout = c.args.layout.now in
    let place : c.slot.result ≡ slot_at layout (other_of c.args.current) = c.slot.ensures ∙ ap (slot_at layout) c.other.ensures in
    let places = lies layout (other_of c.args.current) in
    let fit = rows_have_room layout c.args.progress.now.epoch c.args.register.now c.registers.ensures.state c.requires.fits.limits in
    omega (arith, place, fit, places.slot, places.half, places.short)

pub returns-clause-progress : goal.returns-clause-progress
returns-clause-progress g c = subst (λ (epoch : ℕ). IsProgress epoch c.args.register.now c.put_rows.new.progress) (sym c.put_rows.ensures.epoch) c.put_rows.ensures.progress

pub returns-clause-rows : goal.returns-clause-rows
returns-clause-rows g c =
    let layout = c.args.layout.now in
    let place : c.slot.result ≡ slot_at layout (other_of c.args.current) = c.slot.ensures ∙ ap (slot_at layout) c.other.ensures in
    rw place at c.put_rows.ensures.rows
