use Rattle.std.proofs.Common.{arith}
use Rattle.group_attach.proofs.IndexFacts.{ended_more}
use Rattle.group_attach.proofs.index.Index.leave_ended.Goals as goal

pub loop-attachment-preserved : goal.loop-attachment-preserved
loop-attachment-preserved g c =
    ended_more c.args.update c.args.self.now _ _ c.args.list.now c.loop-attachment.attachment-index c.attachment-item.result
    (omega (arith, c.loop-attachment-test.true)) c.attachment-item.is c.loop-attachment.invariant c.leave_if_ended.ensures
