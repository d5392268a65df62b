use Rattle.std.proofs.Common.{◌≡◌, ◌+◌, Err, ap, arith}
use Rattle.sector_disk.specs.Disk.{View}
use Rattle.gated_journal.specs.Half.{half_of}
use Rattle.recovery.specs.declared.fault.StoreFault.TheVariants.{NoMemory}
use Rattle.recovery.specs.Opening.{HasReadAgain}
use Rattle.recovery.specs.Opens.{played_from}
use Rattle.recovery.proofs.Replayed.{plays_none, runs_short_on, short_good}
use Rattle.recovery.proofs.records.play.Goals as goal

pub returns-in-Err-clause-exact : goal.returns-in-Err-clause-exact
returns-in-Err-clause-exact g c honest =
    let old : View = g.D.Disk.view c.args.disk.now in
    let only_read = c.play_on.ensures.reads.disk.only_read honest in
    let reported = rw (only_read.reads, c.play_on.ensures.moves.journal.end) at (c.first_fault.ensures.exact only_read.honest) in
    reported (played_from c.args.register.now
    (half_of {A = g.row.A.Denot} c.args.journal.now.form c.args.journal.now.count old.reads c.args.journal.now.next c.args.journal.now.end))
    (c.in-Err.ensures.exact honest)

pub returns-in-Err-clause-memory : goal.returns-in-Err-clause-memory
returns-in-Err-clause-memory g c e honest =
    let old : View = g.D.Disk.view c.args.disk.now in
    let half = half_of {A = g.row.A.Denot} c.args.journal.now.form c.args.journal.now.count old.reads c.args.journal.now.next c.args.journal.now.end in
    let rest = half_of {A = g.row.A.Denot} c.play_on.new.journal.form c.play_on.new.journal.count old.reads c.play_on.new.journal.next
    c.args.journal.now.end in
    let only_read = c.play_on.ensures.reads.disk.only_read honest in
    let is : c.first_fault.result ≡ NoMemory = cc in
    let found = rw (only_read.reads, c.play_on.ensures.moves.journal.end) at (c.first_fault.ensures.memory is only_read.honest) in
    let once = rw (only_read.reads, c.play_on.ensures.moves.journal.end) at (c.first_fault.ensures.calls is only_read.honest) in
    let short = c.in-Err.ensures.memory (ap Err found.0) honest in
    let all = short_good c.args.register.now c.play_on.new.register half rest short found.1.0 found.1.1 in
    let calls = once found.1.0 found.1.1 in
    let so : HasReadAgain old.calls (g.D.Disk.view c.play_on.new.disk).calls c.args.journal.now.next c.play_on.new.journal.next →
    HasReadAgain old.calls (g.D.Disk.view c.first_fault.new.disk).calls c.args.journal.now.next (all.0.1 + 1) = λ more. omega (arith, more, calls, all.2) in
    ((all.0, all.1), rw c.first_fault.ensures.same (runs_short_on c.args.register.now c.args.register.now c.play_on.new.register half half rest so (plays_none c.args.register.now half) short))
