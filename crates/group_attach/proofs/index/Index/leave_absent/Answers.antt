use Rattle.std.proofs.Common.{arith}
use Rattle.group_attach.proofs.IndexFacts.{left_more}
use Rattle.group_attach.proofs.index.Index.leave_absent.Goals as goal

pub loop-attachment-preserved : goal.loop-attachment-preserved
loop-attachment-preserved g c =
    left_more c.args.list.now c.args.self.now _ _ c.args.old.now c.loop-attachment.attachment-index c.attachment-item.result
    (omega (arith, c.loop-attachment-test.true)) c.attachment-item.is c.loop-attachment.invariant c.leave_unless.ensures
