use Rattle.std.proofs.Common.{refl}
use Rattle.sector_disk.specs.Disk.{View}
use Rattle.recovery.proofs.Remains.{ends_refused, goes_on}
use Rattle.recovery.proofs.Later.{later_played, later_refused}
use Rattle.recovery.proofs.rest_records.play_or_stop.Goals as goal

pub returns-then-branch-clause-exact : goal.returns-then-branch-clause-exact
returns-then-branch-clause-exact g c honest u last leads =
    let old : View = g.D.Disk.view c.args.disk.now in
    let there = rw c.in-Ok-Some.field-0-is at (c.in-Ok-Some.ensures.exact honest) in
    let count = rw c.in-Ok-Some.field-0-is at c.in-Ok-Some.ensures.moves.count in
    let ran = rw (c.if-branch.true, c.deref.ensures.value) at c.in_ok-apply_while-in-Ok-Some.ensures.exact in
    goes_on g.row.A.Denot c.args.journal.now old c.args.register.now c.in-Ok-Some.commands.items c.read_next.new.self.next there
    c.apply_while.new.register ran c.read_next.new.self c.read_next.ensures.moves.form c.read_next.ensures.moves.end refl count u last leads

pub returns-else-branch-clause-exact : goal.returns-else-branch-clause-exact
returns-else-branch-clause-exact g c honest =
    let old : View = g.D.Disk.view c.args.disk.now in
    let there = rw c.in-Ok-Some.field-0-is at (c.in-Ok-Some.ensures.exact honest) in
    let at = rw c.in-Ok-Some.field-0-is at c.in-Ok-Some.ensures.moves.at in
    let ran = rw (c.if-branch.false, c.deref.ensures.value) at c.in_ok-apply_while-in-Ok-Some.ensures.exact in
    ends_refused g.row.A.Denot c.args.journal.now old c.args.register.now c.in-Ok-Some.commands.items c.read_next.new.self.next there
    c.apply_while.new.register c.in-Ok-Some.at at.0 ran

pub returns-then-branch-clause-after : goal.returns-then-branch-clause-after
returns-then-branch-clause-after g c honest bad later has =
    let old : View = g.D.Disk.view c.args.disk.now in
    let there = rw c.in-Ok-Some.field-0-is at (c.in-Ok-Some.ensures.exact honest) in
    let count = rw c.in-Ok-Some.field-0-is at c.in-Ok-Some.ensures.moves.count in
    later_played g.row.A.Denot c.args.journal.now old c.in-Ok-Some.commands.items c.read_next.new.self.next there
    c.read_next.new.self c.read_next.ensures.moves.form c.read_next.ensures.moves.end refl count bad later has

pub returns-else-branch-clause-after : goal.returns-else-branch-clause-after
returns-else-branch-clause-after g c honest later can =
    let old : View = g.D.Disk.view c.args.disk.now in
    let there = rw c.in-Ok-Some.field-0-is at (c.in-Ok-Some.ensures.exact honest) in
    let count = rw c.in-Ok-Some.field-0-is at c.in-Ok-Some.ensures.moves.count in
    let at = rw c.in-Ok-Some.field-0-is at c.in-Ok-Some.ensures.moves.at in
    later_refused g.row.A.Denot c.args.journal.now old c.in-Ok-Some.commands.items c.read_next.new.self.next there
    c.read_next.new.self c.read_next.ensures.moves.form c.read_next.ensures.moves.end refl count c.in-Ok-Some.at at.0 at.1 later can
