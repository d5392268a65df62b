use Rattle.std.proofs.Common.{◌≡◌, take}
use Rattle.group_attach.specs.Inside.Filed.{all_ended}
use Rattle.group_attach.proofs.index.Index.leave_ended.Given as goal

abbrev pub invariant-loop-attachment : goal.invariant-loop-attachment
invariant-loop-attachment g l = l.self ≡ all_ended l.update l.fn.self (take l.attachment-index l.list)
