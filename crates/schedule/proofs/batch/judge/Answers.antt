use Rattle.std.proofs.Common.{arith}
use Rattle.schedule.proofs.Judging.{judged_more, judged_all}
use Rattle.schedule.proofs.batch.judge.Goals as goal

pub loop-command-preserved : goal.loop-command-preserved
loop-command-preserved g c =
    judged_more c.args.register.now c.loop-command.register c.judge_one.new.register c.args.batch.now c.loop-command.command-index
    c.command-item.result c.loop-command.replies.items c.judge_one.new.replies.items c.loop-command.news.items c.judge_one.new.news.items
    (omega (arith, c.loop-command-test.true)) c.command-item.is c.loop-command.invariant c.in_ok-judge_one.ensures.replies
    c.in_ok-judge_one.ensures.news c.in_ok-judge_one.ensures.register

pub returns : goal.returns
returns g c = judged_all c.args.register.now c.loop-command.register c.args.batch.now c.loop-command.command-index c.loop-command.replies.items
    c.loop-command.news.items (omega (arith, c.loop-command-test.false)) c.loop-command.invariant
