use Rattle.std.proofs.Common.{◌≡◌, Err, ap, inr, arith, ◌∙◌}
use Rattle.std.proofs.lemmas.Result.{err_from_is_err_and}
use Rattle.sector_disk.specs.Disk.{View}
use Rattle.gated_journal.specs.declared.place.Place.{Place}
use Rattle.gated_journal.specs.Half.{half_of}
use Rattle.checkpoint.specs.Layout.{half_at, half_end}
use Rattle.recovery.specs.declared.fault.StoreFault.TheVariants.{NoMemory}
use Rattle.recovery.proofs.Replayed.{cut_short}
use Rattle.recovery.proofs.opening.read_half.Goals as goal

pub returns-in_err-play-clause-memory : goal.returns-in_err-play-clause-memory
returns-in_err-play-clause-memory g c e honest =
    let old : View = g.D.Disk.view c.args.disk.now in
    let journal : Place = c.in_ok-journal.journal in
    let first = half_at c.args.layout.now c.args.current.side in
    let last = half_end c.args.layout.now c.args.current.side in
    let p = err_from_is_err_and c.from_residual-in_err-play.result c.from_residual-in_err-play.ensures.1 in
    let is : c.in_err-play.field-0.0 ≡ NoMemory = cc in
    let form : journal.form ≡ c.args.current.form = ap (λ (place : Place). place.form) c.in_ok-journal.ensures in
    let count : journal.count ≡ c.args.register.now.count = ap (λ (place : Place). place.count) c.in_ok-journal.ensures ∙ c.count.ensures in
    let next : journal.next ≡ first = ap (λ (place : Place). place.next) c.in_ok-journal.ensures ∙ c.half.ensures in
    let stated = ap (λ (place : Place). place.end) c.in_ok-journal.ensures in
    let end : journal.end ≡ last = omega (arith, stated, c.half.ensures, c.from.ensures, c.journal.ensures.value) in
    let cut = rw (form, count, next, end) at (c.in_err-play.ensures.memory (ap Err is) honest) in
    inr (
      cut.0,
      cut_short c.args.register.now c.play.new.register
          (half_of {A = g.row.A.Denot} c.args.current.form c.args.register.now.count old.reads first last) _ cut.1 cut.0.0 cut.0.1,
    )
