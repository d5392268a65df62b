use Rattle.std.proofs.Common.{◌<◌, ◌+◌, length, arith}
use Rattle.std.proofs.lemmas.Result.{on_err_weaker}
use Rattle.base.proofs.Results.{on_err}
use Rattle.mm_pdus.proofs.Written.{after_number}
use Rattle.mm_pdus.proofs.downlink.put_accept.Goals as goal

pub returns-in_err-put-2-clause-memory : goal.returns-in_err-put-2-clause-memory
returns-in_err-put-2-clause-memory g c =
    on_err c.from_residual-in_err-put-2.result (omega (arith, c.in_err-put-2.ensures.memory, after_number c.args.writer.now c.put.new.writer 4 _ c.in_ok-put.ensures.ok))

pub returns-clause-memory : goal.returns-clause-memory
returns-clause-memory g c =
    let first = after_number c.args.writer.now c.put.new.writer 4 _ c.in_ok-put.ensures.ok in
    let second = after_number c.put.new.writer c.put-2.new.writer 3 _ c.in_ok-put-2.ensures.ok in
    on_err_weaker c.put_bit.result (λ (h : 64 < length c.put-2.new.writer + 1). omega (arith, h, first, second)) c.put_bit.ensures.memory
