use Rattle.std.proofs.Common.{length}
use Rattle.group_attach.proofs.index.Index.+attach_all.Given as goal

abbrev pub decreases-attach_all : goal.decreases-attach_all
decreases-attach_all g l = length l.list.now
