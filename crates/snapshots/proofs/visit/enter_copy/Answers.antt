use Rattle.snapshots.proofs.Keeping.{enters}
use Rattle.snapshots.proofs.visit.enter_copy.Goals as goal

pub enter_as-requires : goal.enter_as-requires
enter_as-requires g c = enters g.J.Centre.base g.J.Centre.book _ _
