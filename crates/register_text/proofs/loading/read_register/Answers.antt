use Rattle.std.proofs.Common.{[], refl, sym, ◌∙◌}
use Rattle.std.proofs.lemmas.Result.{err_from_is_err_and}
use Rattle.register_text.specs.Dump.{text_read}
use Rattle.register_text.specs.Inside.Going.{outcome}
use Rattle.register_text.specs.Text.{text_begun}
use Rattle.register_text.proofs.Parts.{fault_from, if_known, none_kept}
use Rattle.register_text.proofs.Passing.{ended_unread, kept_good, never_read, unread_alike}
use Rattle.register_text.proofs.loading.read_register.Goals as goal

pub returns-in_err-take_all-clause-fault : goal.returns-in_err-take_all-clause-fault
returns-in_err-take_all-clause-fault g c =
    let p = err_from_is_err_and c.from_residual.result c.from_residual.ensures.1 in
    rw (p.1, p.2) (if_known (g.R.Read.remaining c.args.reader.now) _ (λ text known. fault_from _ _ _ (sym (c.in-Ok.ensures.read text)) (c.in_err-take_all.ensures.fault text known)))

pub returns-in_err-take_all-clause-unread : goal.returns-in_err-take_all-clause-unread
returns-in_err-take_all-clause-unread g c =
    let p = err_from_is_err_and c.from_residual.result c.from_residual.ensures.1 in
    rw (p.1, p.2) (unread_alike g.R.TextSource.gave g.R.TextSource.ended g.R.TextSource.failed (outcome c.in-Ok.reading) (text_read c.args.limits) c.in-Ok.ensures.read
    c.args.reader.now c.take_all.new.reader _ c.in_err-take_all.ensures.unread)

pub returns-in_default-clause-unread : goal.returns-in_default-clause-unread
returns-in_default-clause-unread g c =
    never_read g.R.TextSource.gave g.R.TextSource.ended g.R.TextSource.failed (text_read c.args.limits) c.args.reader.now (kept_good 1 (text_begun c.args.limits) [] (none_kept [] refl))

pub returns-clause-unread : goal.returns-clause-unread
returns-clause-unread g c =
    let whole = c.in_ok-take_all.ensures.whole in
    let after = c.take_all.new.self in
    ended_unread g.R.TextSource.gave g.R.TextSource.ended g.R.TextSource.failed c.finish.result (text_read c.args.limits) c.args.reader.now c.take_all.new.reader
    after.number after.loader after.line.items whole.0 whole.1 (sym (c.in-Ok.ensures.read whole.0) ∙ whole.2) c.in_ok-take_all.ensures.kept c.finish.ensures
