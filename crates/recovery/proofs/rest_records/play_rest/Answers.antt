use Rattle.std.proofs.Common.{◌≡◌}
use Rattle.sector_disk.specs.Disk.{View}
use Rattle.recovery.proofs.Later.{ends_on}
use Rattle.recovery.proofs.rest_records.play_rest.Goals as goal

pub returns-clause-after : goal.returns-clause-after
returns-clause-after g c honest =
    let old : View = g.D.Disk.view c.args.disk.now in
    let mid : View = g.D.Disk.view c.loop.disk in
    let read = c.loop.invariant.only_read honest in
    ends_on g.row.A.Denot c.loop.journal old c.args.journal.now c.play_or_stop.new.journal mid read.reads c.play_or_stop.new.stop
    (rw c.if-branch.false at (c.in_ok-play_or_stop.ensures.after read.honest)) (c.loop.invariant.after honest)
