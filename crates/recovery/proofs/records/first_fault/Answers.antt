use Rattle.sector_disk.specs.Disk.{View}
use Rattle.gated_journal.specs.Half.{half_of}
use Rattle.recovery.proofs.Replayed.{stops_bad, stops_good}
use Rattle.recovery.proofs.records.first_fault.Goals as goal

pub returns-in-Ok-clause-exact : goal.returns-in-Ok-clause-exact
returns-in-Ok-clause-exact g c honest is stops =
    let old : View = g.D.Disk.view c.args.disk.now in
    let good = c.in-Ok.ensures.exact honest in
    stops_good c.args.fault good.0 (half_of {A = g.row.A.Denot} c.args.journal.now.form c.args.journal.now.count old.reads c.args.journal.now.next c.args.journal.now.end) is good.1 stops

pub returns-in-Err-clause-exact : goal.returns-in-Err-clause-exact
returns-in-Err-clause-exact g c honest is stops =
    let old : View = g.D.Disk.view c.args.disk.now in
    let bad = c.in-Err.ensures.exact honest in
    rw c.from.ensures (stops_bad c.args.fault c.in-Err.error
    (half_of {A = g.row.A.Denot} c.args.journal.now.form c.args.journal.now.count old.reads c.args.journal.now.next c.args.journal.now.end) is bad
    stops)
