use Rattle.snapshots.proofs.Keeping.{admits}
use Rattle.snapshots.proofs.making.add_viewers.Goals as goal

pub reader-requires : goal.reader-requires
reader-requires g c = admits g.J.Centre.base g.J.Centre.book
