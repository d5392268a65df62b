use Rattle.std.proofs.Common.{rules, ◌≡◌, ap, sym, ◌∙◌, None, Err}
use Rattle.base.proofs.Results.{on_err}
use Rattle.centre_core.proofs.ShortPdus.{new_needs, refused_place}
use Rattle.centre_core.proofs.tables.Tables.locate.Goals as goal

pub returns-in_err-location_refusal-2-clause-memory : goal.returns-in_err-location_refusal-2-clause-memory
returns-in_err-location_refusal-2-clause-memory g c =
    on_err c.from_residual-in_err-location_refusal-2.result
    (new_needs c.args.self.now c.args.itsi c.args.area c.args.update c.place.result (search rules)
    (c.in-Err.is ∙ ap Err c.in_err-location_refusal-2.ensures.memory)
    (sym c.in_err-location_refusal-2.ensures.memory ∙ c.in-Err.ensures.err.0) c.place.ensures.moves)

pub returns-in-Err-clause-ok : goal.returns-in-Err-clause-ok
returns-in-Err-clause-ok g c =
    refused_place c.args.self.now c.args.command.now c.args.itsi c.args.area c.args.update c.in-Err.fault c.place.new.self
    c.in_ok-location_refusal-2.field-0 (search rules) c.in-Err.ensures.err c.in_ok-location_refusal-2.ensures.ok
