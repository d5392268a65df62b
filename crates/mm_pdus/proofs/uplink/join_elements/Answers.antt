use Rattle.std.proofs.Common.{◌∙◌, sym, Some, refl, inl}
use Rattle.std.proofs.lemmas.Result.{err_from_is_err_and}
use Rattle.mm_pdus.specs.Reading.{made_element}
use Rattle.mm_pdus.specs.GroupReading.{group_up_at}
use Rattle.mm_pdus.specs.UplinkReading.{join_groups}
use Rattle.mm_pdus.proofs.ElementSteps.{element_shorter, elements_on, elements_end, elements_fail, elements_refuse}
use Rattle.mm_pdus.proofs.Unkept.{element_wants, join_wants, first_after_join}
use Rattle.mm_pdus.proofs.uplink.join_elements.Goals as goal

pub loop-identifier-init : goal.loop-identifier-init
loop-identifier-init g c = (refl, inl refl)

pub returns-in_err-identifier-clause-given : goal.returns-in_err-identifier-clause-given
returns-in_err-identifier-clause-given g c =
    let p = err_from_is_err_and c.from_residual.result c.from_residual.ensures.1 in
    rw (p.1, p.2) (λ no. sym c.loop-identifier.invariant.0 ∙ elements_fail (join_groups group_up_at) c.loop-identifier.items c.loop-identifier.reader
    c.in_err-identifier.field-0.0 c.in_err-identifier.ensures)

pub returns-in_err-identifier-clause-memory : goal.returns-in_err-identifier-clause-memory
returns-in_err-identifier-clause-memory g c =
    let p = err_from_is_err_and c.from_residual.result c.from_residual.ensures.1 in
    rw (p.1, p.2) (λ is. element_wants c.args.items.now c.args.reader.now c.loop-identifier.items c.loop-identifier.reader
    c.in_err-identifier.field-0.0 c.loop-identifier.invariant.1 c.in_err-identifier.ensures is)

pub loop-identifier-smaller : goal.loop-identifier-smaller
loop-identifier-smaller g c =
    let e = made_element c.in-Some.identifier c.in-Some.body in
    element_shorter c.loop-identifier.reader (Some e, c.element.new.reader) (rw c.in-Some.is at c.in_ok-identifier.ensures)

pub loop-identifier-preserved : goal.loop-identifier-preserved
loop-identifier-preserved g c =
    let e = made_element c.in-Some.identifier c.in-Some.body in
    let read = rw c.in-Some.is at c.in_ok-identifier.ensures in (
      sym (elements_on (join_groups group_up_at) c.loop-identifier.items c.join_element.new.items c.loop-identifier.reader c.element.new.reader e read
          c.in_ok-join_element.ensures.given) ∙ c.loop-identifier.invariant.0,
      first_after_join c.args.items.now c.args.reader.now c.loop-identifier.items c.join_element.new.items c.loop-identifier.reader
          c.element.new.reader e c.loop-identifier.invariant.1 read c.in_ok-join_element.ensures.given,
    )

pub returns-in_err-join_element-clause-given : goal.returns-in_err-join_element-clause-given
returns-in_err-join_element-clause-given g c =
    let e = made_element c.in-Some.identifier c.in-Some.body in
    let p = err_from_is_err_and c.from_residual-in_err-join_element.result c.from_residual-in_err-join_element.ensures.1 in
    rw (p.1, p.2) (λ no. sym c.loop-identifier.invariant.0 ∙
    elements_refuse (join_groups group_up_at) c.loop-identifier.items c.loop-identifier.reader c.element.new.reader e
    c.in_err-join_element.field-0.0 (rw c.in-Some.is at c.in_ok-identifier.ensures) (c.in_err-join_element.ensures.given no))

pub returns-in_err-join_element-clause-memory : goal.returns-in_err-join_element-clause-memory
returns-in_err-join_element-clause-memory g c =
    let e = made_element c.in-Some.identifier c.in-Some.body in
    let p = err_from_is_err_and c.from_residual-in_err-join_element.result c.from_residual-in_err-join_element.ensures.1 in
    rw (p.1, p.2) (λ is. join_wants c.args.items.now c.args.reader.now c.loop-identifier.items c.loop-identifier.reader c.element.new.reader e
    c.in_err-join_element.field-0.0 c.loop-identifier.invariant.1 (rw c.in-Some.is at c.in_ok-identifier.ensures)
    c.in_err-join_element.ensures.memory is)

pub returns-clause-given : goal.returns-clause-given
returns-clause-given g c = sym c.loop-identifier.invariant.0 ∙ elements_end (join_groups group_up_at) c.loop-identifier.items c.loop-identifier.reader
    c.element.new.reader (rw c.in_default.is at c.in_ok-identifier.ensures)
