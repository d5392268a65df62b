use Rattle.recovery.proofs.Labelled.{label_read}
use Rattle.recovery.proofs.Faults.{bad_geometry, label_only, unformatted}
use Rattle.recovery.proofs.laws.label_states.Goals as goal

pub returns-clause-stated : goal.returns-clause-stated
returns-clause-stated c = label_read

pub returns-clause-only : goal.returns-clause-only
returns-clause-only c layout image are = label_only image are layout

pub returns-clause-unformatted : goal.returns-clause-unformatted
returns-clause-unformatted c = unformatted

pub returns-clause-geometry : goal.returns-clause-geometry
returns-clause-geometry c = bad_geometry
