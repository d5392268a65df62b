use Rattle.std.proofs.Common.{◌≡◌, Err, ap}
use Rattle.std.proofs.lemmas.Result.{err_from_is_err_and}
use Rattle.base.proofs.Results.{if_ok_then}
use Rattle.checkpoint.specs.declared.side.Side.TheVariants as side
use Rattle.recovery.specs.declared.fault.StoreFault.TheVariants.{NoMemory}
use Rattle.recovery.proofs.rest.read_greater_rest.Goals as goal

pub returns-clause-left : goal.returns-clause-left
returns-clause-left g c =
    if_ok_then c.read_side_rest.result c.read_side_rest.ensures.left (λ found says honest.
    let first = c.in_ok-layout.ensures.reads.disk.only_read honest in
    let second = c.in_ok-a.ensures.reads.disk.only_read first.honest in
    let third = c.in_ok-b.ensures.reads.disk.only_read second.honest in (
      c.in_ok-layout.layout,
      c.greater_side.result,
      c.in_ok-layout.ensures.exact honest,
      record {
        a = c.in_ok-a.a;
        b = c.in_ok-b.b;
        of_a = rw first.reads at (c.in_ok-a.ensures.size first.honest);
        of_b = rw (second.reads, first.reads) at (c.in_ok-b.ensures.size second.honest);
        greater = c.greater_side.ensures;
      },
      rw (third.reads, second.reads, first.reads) at (says third.honest),
    ))

pub returns-in_err-a-clause-memory : goal.returns-in_err-a-clause-memory
returns-in_err-a-clause-memory g c is honest =
    let first = c.in_ok-layout.ensures.reads.disk.only_read honest in
    let p = err_from_is_err_and c.from_residual-in_err-a.result c.from_residual-in_err-a.ensures.1 in
    let said = rw (p.1, p.2) at is in
    let fault : c.in_err-a.field-0.0 ≡ NoMemory = cc in
    let has = c.in_err-a.ensures.memory (ap Err fault) first.honest in
    (c.in_ok-layout.layout, side.A, c.in_ok-layout.ensures.exact honest, rw first.reads at has)

pub returns-in_err-b-clause-memory : goal.returns-in_err-b-clause-memory
returns-in_err-b-clause-memory g c is honest =
    let first = c.in_ok-layout.ensures.reads.disk.only_read honest in
    let second = c.in_ok-a.ensures.reads.disk.only_read first.honest in
    let p = err_from_is_err_and c.from_residual-in_err-b.result c.from_residual-in_err-b.ensures.1 in
    let said = rw (p.1, p.2) at is in
    let fault : c.in_err-b.field-0.0 ≡ NoMemory = cc in
    let has = c.in_err-b.ensures.memory (ap Err fault) second.honest in
    (c.in_ok-layout.layout, side.B, c.in_ok-layout.ensures.exact honest, rw (second.reads, first.reads) at has)

pub returns-clause-memory : goal.returns-clause-memory
returns-clause-memory g c is honest =
    let first = c.in_ok-layout.ensures.reads.disk.only_read honest in
    let second = c.in_ok-a.ensures.reads.disk.only_read first.honest in
    let third = c.in_ok-b.ensures.reads.disk.only_read second.honest in
    let has = c.read_side_rest.ensures.memory is third.honest in
    (c.in_ok-layout.layout, c.greater_side.result, c.in_ok-layout.ensures.exact honest, rw (third.reads, second.reads, first.reads) at has)
