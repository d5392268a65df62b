use Rattle.std.proofs.Common.{refl}
use Rattle.recovery.proofs.keeping.append_ongoing.Goals as goal

pub append_also-requires : goal.append_also-requires
append_also-requires g c = rw c.in-Some.is at c.requires.room

pub returns-in-Some-clause-adds : goal.returns-in-Some-clause-adds
returns-in-Some-clause-adds g c = rw c.in-Some.is (c.append_also.new.ongoing, refl, c.append_also.ensures.adds)
