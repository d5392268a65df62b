use Rattle.std.proofs.Common.{◌≡◌, ◌<◌, ◌+◌, length, ap, arith}
use Rattle.std.proofs.lemmas.Result.{on_err_weaker}
use Rattle.mm_pdus.proofs.downlink.put_down.Goals as goal

pub returns-in-Accept-clause-memory : goal.returns-in-Accept-clause-memory
returns-in-Accept-clause-memory g c =
    let none : length c.args.writer.now ≡ 0 = ap length c.requires.fresh in
    on_err_weaker c.put_accept.result (λ (h : 64 < length c.args.writer.now + 8). absurd (omega (arith, h, none))) c.put_accept.ensures.memory

pub returns-in-Reject-clause-memory : goal.returns-in-Reject-clause-memory
returns-in-Reject-clause-memory g c =
    let none : length c.args.writer.now ≡ 0 = ap length c.requires.fresh in
    on_err_weaker c.put_reject.result (λ (h : 64 < length c.args.writer.now + 14). absurd (omega (arith, h, none))) c.put_reject.ensures.memory
