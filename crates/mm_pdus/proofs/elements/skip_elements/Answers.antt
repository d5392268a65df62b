use Rattle.std.proofs.Common.{◌∙◌, refl, sym, Some}
use Rattle.std.proofs.lemmas.Result.{err_from_is_err_and}
use Rattle.mm_pdus.specs.Syntax.{Element}
use Rattle.mm_pdus.specs.Reading.{ignore}
use Rattle.mm_pdus.proofs.ElementSteps.{element_shorter, elements_on, elements_end, elements_fail}
use Rattle.mm_pdus.proofs.elements.skip_elements.Goals as goal

pub returns-in_err-element : goal.returns-in_err-element
returns-in_err-element c =
    let p = err_from_is_err_and c.from_residual.result c.from_residual.ensures.1 in
    rw (p.1, p.2) (sym c.loop.invariant ∙ elements_fail ignore tt c.loop.reader c.in_err-element.field-0.0 c.in_err-element.ensures)

pub loop-smaller : goal.loop-smaller
loop-smaller c =
    let e : Element = record { identifier = c.in-Some.field-0.0; body = c.in-Some.field-0.1 } in
    element_shorter c.loop.reader (Some e, c.element.new.reader) (rw c.in-Some.is at c.in_ok-element.ensures)

pub loop-preserved : goal.loop-preserved
loop-preserved c =
    let e : Element = record { identifier = c.in-Some.field-0.0; body = c.in-Some.field-0.1 } in
    sym (elements_on ignore tt tt c.loop.reader c.element.new.reader e (rw c.in-Some.is at c.in_ok-element.ensures) refl) ∙ c.loop.invariant

pub returns : goal.returns
returns c = sym c.loop.invariant ∙ elements_end ignore tt c.loop.reader c.element.new.reader (rw c.in_default.is at c.in_ok-element.ensures)
