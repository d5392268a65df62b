use Rattle.std.proofs.Common.{ℕ, ◌+◌, ◌-◌, [], length, take, drop, refl, ◌∙◌, arith}
use Rattle.std.proofs.lemmas.Grind.{common_steps}
use Rattle.std.proofs.lemmas.Result.{on_err_weaker, on_ok_weaker}
use Rattle.base.proofs.Results.{on_err}
use Rattle.console.specs.Inside.Passing.{sent_by}
use Rattle.console.proofs.Told.{failed_once, failure_passes, flush_fails, flush_passes, passes_by, passes_on, still_passes, write_passes}
use Rattle.console.proofs.Writing.{left_of, left_later, none_left}
use Rattle.console.proofs.output.Output.send.Goals as goal

pub loop-at-init : goal.loop-at-init
loop-at-init g c = (
  omega arith,
  refl,
  refl,
  refl,
  still_passes (sent_by g.W.Write.contents c.args.self.now) c.args.bytes.now,
)

pub returns-in_err-at-clause-err : goal.returns-in_err-at-clause-err
returns-in_err-at-clause-err g c =
    let contents = g.W.Write.contents in
    let left = drop c.loop-at.at c.args.bytes.now in
    on_err c.from_residual.result (
      left,
      passes_on (sent_by contents c.args.self.now) (sent_by contents c.loop-at.self) (sent_by contents c.write.new.self) c.args.bytes.now [] left [] left c.loop-at.invariant.4
          (failure_passes _ _ left c.in_err-at.ensures.noted
          (failed_once ℕ c.in_err-at.field-0.0 c.loop-at.self.failures.now c.write.new.self.failures.now c.in_err-at.ensures.writes.stops
          c.in_err-at.ensures.writes.ledger) c.in_err-at.ensures.err),
    )

pub loop-at-preserved : goal.loop-at-preserved
loop-at-preserved g c =
    let contents = g.W.Write.contents in
    let bytes = c.args.bytes.now in
    let at = c.loop-at.at in
    let n = c.in_ok-at.field-0 in
    let waits = take (length bytes - at) (drop at bytes) in (
      grind (arith, common_steps, c.in_ok-at.ensures.bound),
      c.write.ensures.writes.same.writer ∙ c.loop-at.invariant.1,
      c.write.ensures.writes.same.failures ∙ c.loop-at.invariant.2,
      omega (arith, c.in_ok-at.ensures.writes.ledger, c.loop-at.invariant.3),
      passes_on (sent_by contents c.args.self.now) (sent_by contents c.loop-at.self) (sent_by contents c.write.new.self) bytes [] (drop at bytes) [] (drop (at + n) bytes) c.loop-at.invariant.4
          (passes_by _ _ waits [] (drop n waits) (drop at bytes) [] (drop (at + n) bytes) (left_of bytes at) refl (left_later bytes at n)
          (write_passes _ _ waits n c.in_ok-at.ensures.events (omega (arith, c.in_ok-at.ensures.writes.ledger)) c.in_ok-at.ensures.ok)),
    )

pub returns-clause-ok : goal.returns-clause-ok
returns-clause-ok g c =
    let contents = g.W.Write.contents in
    let bytes = c.args.bytes.now in
    let left = drop c.loop-at.at bytes in
    on_ok_weaker c.flush.result (λ flushed. passes_by _ _ bytes [] left bytes [] [] refl refl (none_left bytes c.loop-at.at (omega (arith, c.loop-at.invariant.0, c.loop-at-test.false)))
    (passes_on (sent_by contents c.args.self.now) (sent_by contents c.loop-at.self) (sent_by contents c.flush.new.self) bytes [] left [] left c.loop-at.invariant.4 flushed))
    (flush_passes c.flush.result (sent_by contents c.loop-at.self) (sent_by contents c.flush.new.self) left c.flush.ensures.silent c.flush.ensures.writes.ledger c.flush.ensures.keeps)

pub returns-clause-err : goal.returns-clause-err
returns-clause-err g c =
    let contents = g.W.Write.contents in
    let left = drop c.loop-at.at c.args.bytes.now in
    on_err_weaker c.flush.result (λ failed. (
      left,
      passes_on (sent_by contents c.args.self.now) (sent_by contents c.loop-at.self) (sent_by contents c.flush.new.self) c.args.bytes.now [] left [] left c.loop-at.invariant.4 failed,
    ))
    (flush_fails c.flush.result (sent_by contents c.loop-at.self) (sent_by contents c.flush.new.self) left c.flush.ensures.noted c.flush.ensures.writes.stops c.flush.ensures.writes.ledger c.flush.ensures.keeps)
