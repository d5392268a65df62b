use Rattle.std.proofs.Common.{◌<◌, ◌+◌, length, arith}
use Rattle.std.proofs.lemmas.Result.{on_err_weaker}
use Rattle.base.proofs.Results.{on_err}
use Rattle.mm_pdus.proofs.Written.{after_number, after_bit}
use Rattle.mm_pdus.proofs.downlink.put_reject.Goals as goal

pub returns-in_err-put-2-clause-memory : goal.returns-in_err-put-2-clause-memory
returns-in_err-put-2-clause-memory g c =
    on_err c.from_residual-in_err-put-2.result (omega (arith, c.in_err-put-2.ensures.memory, after_number c.args.writer.now c.put.new.writer 4 _ c.in_ok-put.ensures.ok))

pub returns-in_err-put-3-clause-memory : goal.returns-in_err-put-3-clause-memory
returns-in_err-put-3-clause-memory g c =
    let first = after_number c.args.writer.now c.put.new.writer 4 _ c.in_ok-put.ensures.ok in
    let second = after_number c.put.new.writer c.put-2.new.writer 3 _ c.in_ok-put-2.ensures.ok in
    on_err c.from_residual-in_err-put-3.result (omega (arith, c.in_err-put-3.ensures.memory, first, second))

pub returns-in_err-put_bit-clause-memory : goal.returns-in_err-put_bit-clause-memory
returns-in_err-put_bit-clause-memory g c =
    let first = after_number c.args.writer.now c.put.new.writer 4 _ c.in_ok-put.ensures.ok in
    let second = after_number c.put.new.writer c.put-2.new.writer 3 _ c.in_ok-put-2.ensures.ok in
    let third = after_number c.put-2.new.writer c.put-3.new.writer 5 _ c.in_ok-put-3.ensures.ok in
    on_err c.from_residual-in_err-put_bit.result (omega (arith, c.in_err-put_bit.ensures.memory, first, second, third))

pub returns-clause-memory : goal.returns-clause-memory
returns-clause-memory g c =
    let first = after_number c.args.writer.now c.put.new.writer 4 _ c.in_ok-put.ensures.ok in
    let second = after_number c.put.new.writer c.put-2.new.writer 3 _ c.in_ok-put-2.ensures.ok in
    let third = after_number c.put-2.new.writer c.put-3.new.writer 5 _ c.in_ok-put-3.ensures.ok in
    let fourth = after_bit c.put-3.new.writer c.put_bit.new.writer _ c.in_ok-put_bit.ensures.ok in
    on_err_weaker c.put_bit-2.result (λ (h : 64 < length c.put_bit.new.writer + 1). omega (arith, h, first, second, third, fourth)) c.put_bit-2.ensures.memory
