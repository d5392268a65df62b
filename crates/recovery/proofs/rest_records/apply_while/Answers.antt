use Rattle.std.proofs.Common.{refl, sym, ◌∙◌, arith}
use Rattle.recovery.specs.Rests.{run_while}
use Rattle.recovery.proofs.Remains.{while_done, while_more, while_stops}
use Rattle.recovery.proofs.rest_records.apply_while.Goals as goal

pub returns-then-not-is_acceptance-clause-exact : goal.returns-then-not-is_acceptance-clause-exact
returns-then-not-is_acceptance-clause-exact g c =
    let commands = c.args.commands.now in
    while_stops commands c.loop-command.command-index c.command-item.result c.loop-command.register c.apply.new.self c.in_ok-reply.reply (run_while c.args.register.now commands)
    c.loop-command-test.true c.command-item.is c.in_ok-reply.ensures.ok (sym c.is_acceptance.ensures ∙ c.if-not-is_acceptance.true) c.loop-command.invariant

pub loop-command-preserved : goal.loop-command-preserved
loop-command-preserved g c =
    let commands = c.args.commands.now in
    while_more commands c.loop-command.command-index c.command-item.result c.loop-command.register c.apply.new.self c.in_ok-reply.reply (run_while c.args.register.now commands)
    c.loop-command-test.true c.command-item.is c.in_ok-reply.ensures.ok (sym c.is_acceptance.ensures ∙ c.if-not-is_acceptance.false) c.loop-command.invariant

pub returns-clause-exact : goal.returns-clause-exact
returns-clause-exact g c =
    let commands = c.args.commands.now in
    while_done commands c.loop-command.command-index c.loop-command.register (run_while c.args.register.now commands) (omega arith) c.loop-command.invariant
