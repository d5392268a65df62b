use Rattle.std.proofs.Common.{◌∙◌, Err, sym, ap, arith, inr}
use Rattle.std.proofs.lemmas.Result.{err_from_is_err_and}
use Rattle.mm_pdus.specs.declared.fault.MmFault.{MmFault}
use Rattle.mm_pdus.proofs.ItemLaws.{room_left}
use Rattle.mm_pdus.proofs.GroupSteps.{goes_on, ends, is_done}
use Rattle.mm_pdus.proofs.Unkept.{read_wants, add_wants}
use Rattle.mm_pdus.proofs.group_fields.groups_into.Goals as goal

pub returns-in_err-read-clause-given : goal.returns-in_err-read-clause-given
returns-in_err-read-clause-given g c =
    let p = err_from_is_err_and c.from_residual.result c.from_residual.ensures.1 in
    rw (p.1, p.2) (λ no. sym c.loop.invariant.0 ∙ ends g.T.GroupText.group_at c.in_err-read.field-0.0 c.loop.items c.args.count c.loop.counter c.loop.reader c.loop-test.true c.in_err-read.ensures)

pub returns-in_err-read-clause-memory : goal.returns-in_err-read-clause-memory
returns-in_err-read-clause-memory g c =
    let p = err_from_is_err_and c.from_residual.result c.from_residual.ensures.1 in
    let some = c.loop-test.true in
    rw (p.1, p.2) (λ is. read_wants g.T.GroupText.group_at c.args.reader.now c.args.count c.loop.reader c.in_err-read.field-0.0 (omega arith) c.loop.invariant.2 c.in_err-read.ensures is)

pub returns-in_err-add-clause-memory : goal.returns-in_err-add-clause-memory
returns-in_err-add-clause-memory g c =
    let p = err_from_is_err_and c.from_residual-in_err-add.result c.from_residual-in_err-add.ensures.1 in
    let some = c.loop-test.true in
    rw (p.1, p.2) (λ is. add_wants g.T.GroupText.group_at c.args.reader.now c.args.count c.loop.reader (c.in_ok-read.field-0, c.read.new.reader)
    (omega arith) c.loop.invariant.2 c.in_ok-read.ensures ∙ ap (λ (f : MmFault). Err f) (sym is))

pub loop-preserved : goal.loop-preserved
loop-preserved g c =
    let some = c.loop-test.true in (
      rw c.in_ok-add.ensures.ok
          (goes_on g.T.GroupText.group_at c.loop.items c.args.count c.loop.counter c.loop.reader c.in_ok-read.field-0 c.read.new.reader c.loop-test.true
          c.in_ok-read.ensures ∙ c.loop.invariant.0),
      room_left 32 c.args.count c.loop.counter c.loop.items c.add.new.self c.in_ok-read.field-0 c.in_ok-add.ensures.ok c.loop-test.true c.loop.invariant.1,
      inr (add_wants g.T.GroupText.group_at c.args.reader.now c.args.count c.loop.reader (c.in_ok-read.field-0, c.read.new.reader) (omega arith) c.loop.invariant.2 c.in_ok-read.ensures),
    )

pub returns-clause-given : goal.returns-clause-given
returns-clause-given g c = sym c.loop.invariant.0 ∙ is_done g.T.GroupText.group_at c.loop.items c.args.count c.loop.counter c.loop.reader c.loop-test.false
