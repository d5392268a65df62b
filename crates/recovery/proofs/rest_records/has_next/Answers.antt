use Rattle.std.proofs.Common.{refl}
use Rattle.sector_disk.specs.Disk.{View}
use Rattle.recovery.proofs.Later.{more}
use Rattle.recovery.proofs.rest_records.has_next.Goals as goal

pub returns-in-Ok-Some-clause-exact : goal.returns-in-Ok-Some-clause-exact
returns-in-Ok-Some-clause-exact g c honest n can =
    let old : View = g.D.Disk.view c.args.disk.now in
    let there = rw c.in-Ok-Some.field-0-is at (c.in-Ok-Some.ensures.exact honest) in
    let count = rw c.in-Ok-Some.field-0-is at c.in-Ok-Some.ensures.moves.count in
    more g.row.A.Denot c.args.journal.now old c.in-Ok-Some.field-0-0.1.items c.read_next.new.self.next there
    c.read_next.new.self c.read_next.ensures.moves.form c.read_next.ensures.moves.end refl count n can
