use Rattle.std.proofs.Common.{ap, refl, sym, ◌∙◌, arith}
use Rattle.recovery.specs.Opens.{run, taken}
use Rattle.recovery.proofs.Applied.{run_done, run_more, run_none, run_short, run_stops, run_taken}
use Rattle.recovery.proofs.Batches.{counted_one}
use Rattle.recovery.proofs.Limited.{step_limits}
use Rattle.recovery.proofs.records.play_record.Goals as goal

pub loop-command-init : goal.loop-command-init
loop-command-init g c = record { so_far = refl; done = run_none g.row.A.Denot c.args.register.now; counted = omega arith; limits = refl }

pub returns-then-not-is_acceptance-clause-exact : goal.returns-then-not-is_acceptance-clause-exact
returns-then-not-is_acceptance-clause-exact g c =
    let commands = c.args.commands.now in
    ap (taken c.args.at) (run_stops commands c.loop-command.command-index c.command-item.result c.loop-command.register c.apply.new.self c.in_ok-reply.reply (run c.args.register.now commands)
    c.loop-command-test.true c.command-item.is c.in_ok-reply.ensures.ok (sym c.is_acceptance.ensures ∙ c.if-not-is_acceptance.true) c.loop-command.invariant.so_far)

pub returns-then-not-is_acceptance-clause-limits : goal.returns-then-not-is_acceptance-clause-limits
returns-then-not-is_acceptance-clause-limits g c =
    step_limits c.loop-command.register c.apply.new.self c.command-item.result c.in_ok-reply.reply c.in_ok-reply.ensures.ok ∙ c.loop-command.invariant.limits

pub returns-in_err-reply-clause-memory : goal.returns-in_err-reply-clause-memory
returns-in_err-reply-clause-memory g c e =
    let loop = c.loop-command in
    rw c.in_err-reply.ensures.err (run_short c.args.commands.now loop.command-index c.command-item.result c.args.register.now loop.register c.loop-command-test.true
    c.command-item.is loop.invariant.done c.in_err-reply.ensures.memory)

pub loop-command-preserved : goal.loop-command-preserved
loop-command-preserved g c =
    let commands = c.args.commands.now in
    record {
      so_far = run_more commands c.loop-command.command-index c.command-item.result c.loop-command.register c.apply.new.self c.in_ok-reply.reply (run c.args.register.now commands)
          c.loop-command-test.true c.command-item.is c.in_ok-reply.ensures.ok (sym c.is_acceptance.ensures ∙ c.if-not-is_acceptance.false) c.loop-command.invariant.so_far;
      done = run_taken commands c.loop-command.command-index c.command-item.result c.args.register.now c.loop-command.register c.apply.new.self c.in_ok-reply.reply
          c.loop-command-test.true c.command-item.is c.in_ok-reply.ensures.ok (sym c.is_acceptance.ensures ∙ c.if-not-is_acceptance.false) c.loop-command.invariant.done;
      counted =
          let one = counted_one c.loop-command.register c.apply.new.self c.command-item.result c.in_ok-reply.reply c.in_ok-reply.ensures.ok
          (sym c.is_acceptance.ensures ∙ c.if-not-is_acceptance.false) in
          omega (arith, one, c.loop-command.invariant.counted);
      limits = step_limits c.loop-command.register c.apply.new.self c.command-item.result c.in_ok-reply.reply c.in_ok-reply.ensures.ok ∙ c.loop-command.invariant.limits;
    }

pub returns-clause-exact : goal.returns-clause-exact
returns-clause-exact g c =
    let commands = c.args.commands.now in
    ap (taken c.args.at) (run_done commands c.loop-command.command-index c.loop-command.register (run c.args.register.now commands) (omega arith) c.loop-command.invariant.so_far)

pub returns-clause-count : goal.returns-clause-count
returns-clause-count g c = omega (arith, c.loop-command.invariant.counted, c.loop-command-test.false, c.loop-command.auto.command-index-end)
