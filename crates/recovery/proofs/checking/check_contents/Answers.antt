use Rattle.sector_disk.specs.Disk.{View}
use Rattle.recovery.specs.Opens.{opens_by}
use Rattle.recovery.proofs.States.{after_fault, damage_opens}
use Rattle.recovery.proofs.checking.check_contents.Goals as goal

pub returns-in-Err-clause-exact : goal.returns-in-Err-clause-exact
returns-in-Err-clause-exact g c honest form =
    let old : View = g.D.Disk.view c.args.disk.now in
    rw c.state_after.ensures.value (after_fault old.reads c.args.epoch c.in-Err.fault (opens_by g.row.A.Denot c.args.layout.now c.args.current.side old.reads)
    old.sectors c.in-Err.ensures.reads.kinds (damage_opens g.row.A.Denot c.args.layout.now c.args.current.side old.reads) (c.in-Err.ensures.exact honest form))
