use Rattle.image_rows.proofs.Slots.{slot_reads, slot_begins, slot_stops}
use Rattle.image_rows.proofs.laws.slots.Goals as goal

pub returns-clause-read : goal.returns-clause-read
returns-clause-read c = slot_reads

pub returns-clause-only : goal.returns-clause-only
returns-clause-only c = slot_begins

pub returns-clause-bad : goal.returns-clause-bad
returns-clause-bad c = slot_stops
