use Rattle.std.proofs.Common.{drop}
use Rattle.schedule.proofs.Judging.{AreJudged}
use Rattle.schedule.proofs.batch.judge.Given as goal

abbrev pub invariant-loop-command : goal.invariant-loop-command
invariant-loop-command g l = AreJudged l.fn.register l.batch l.register l.replies.items l.news.items (drop l.command-index l.batch)
