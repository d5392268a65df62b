use Rattle.std.proofs.Common.{refl}
use Rattle.flusher.proofs.session.Session.list.Goals as goal

pub returns-clause-reads : goal.returns-clause-reads
returns-clause-reads g c = record { sender = refl; receiver = refl; seen = c.list.ensures.later; share = refl; listening = refl }
