use Rattle.sector_disk.specs.Disk.{View}
use Rattle.recovery.proofs.States.{state_unread}
use Rattle.recovery.proofs.checking.check_side.Goals as goal

pub returns-in-Err-clause-exact : goal.returns-in-Err-clause-exact
returns-in-Err-clause-exact g c honest =
    let old : View = g.D.Disk.view c.args.disk.now in
    rw c.state_after.ensures.value (state_unread g.row.A.Denot c.args.layout.now c.args.side old.reads c.in-Err.fault old.sectors c.in-Err.ensures.reads.kinds (c.in-Err.ensures.exact honest))
