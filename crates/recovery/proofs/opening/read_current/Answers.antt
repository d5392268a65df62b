use Rattle.std.proofs.Common.{◌≡◌, ℕ, Err, ap, subst}
use Rattle.sector_disk.specs.Disk.{View}
use Rattle.recovery.specs.declared.fault.StoreFault.TheVariants.{DiskFault, NoMemory}
use Rattle.checkpoint.specs.OnSide.{slot_form}
use Rattle.recovery.specs.Inside.Reads.{IsOfRowsOrRecords}
use Rattle.recovery.proofs.Chained.{by_both, by_half}
use Rattle.recovery.proofs.Opened.{so_far}
use Rattle.sector_disk.proofs.Effects.{reads_on}
use Rattle.recovery.proofs.opening.read_current.Goals as goal

pub returns-in-Err-clause-memory : goal.returns-in-Err-clause-memory
returns-in-Err-clause-memory g c e honest form =
    let old : View = g.D.Disk.view c.args.disk.now in
    let mid : View = g.D.Disk.view c.read_base.new.disk in
    let only_read = c.in_ok-epoch.ensures.reads.disk.only_read honest in
    let is : c.in-Err.fault ≡ NoMemory = cc in
    so_far g.row.A.Denot c.args.layout c.args.current.side (c.in_ok-epoch.epoch, c.in_ok-epoch.register) old.reads old.calls mid.calls _
    (c.in_ok-epoch.ensures.exact honest) (c.in_ok-epoch.ensures.calls honest)
    (rw (only_read.reads, form) at (c.in-Err.ensures.memory (ap Err is) only_read.honest))

pub returns-in-Ok-clause-exact : goal.returns-in-Ok-clause-exact
returns-in-Ok-clause-exact g c honest form =
    let old : View = g.D.Disk.view c.args.disk.now in
    let mid : View = g.D.Disk.view c.read_base.new.disk in
    let only_read = c.in_ok-epoch.ensures.reads.disk.only_read honest in
    let here : c.args.current.form ≡ slot_form c.args.layout c.args.current.side mid.reads = rw only_read.reads form in
    by_both g.row.A.Denot c.args.layout c.args.current.side old.reads (c.in_ok-epoch.epoch, c.in_ok-epoch.register) (c.read_half.new.register, c.in-Ok.journal.next)
    (c.in_ok-epoch.ensures.exact honest) (rw only_read.reads at (c.in-Ok.ensures.exact only_read.honest here))

pub returns-in-Err-clause-exact : goal.returns-in-Err-clause-exact
returns-in-Err-clause-exact g c honest form =
    let old : View = g.D.Disk.view c.args.disk.now in
    let mid : View = g.D.Disk.view c.read_base.new.disk in
    let only_read = c.in_ok-epoch.ensures.reads.disk.only_read honest in
    let here : c.args.current.form ≡ slot_form c.args.layout c.args.current.side mid.reads = rw only_read.reads form in
    by_half g.row.A.Denot c.args.layout c.args.current.side old.reads (c.in_ok-epoch.epoch, c.in_ok-epoch.register) c.in-Err.fault
    (c.in_ok-epoch.ensures.exact honest) (rw only_read.reads at (c.in-Err.ensures.exact only_read.honest here))

pub returns-in-Ok-clause-reads : goal.returns-in-Ok-clause-reads
returns-in-Ok-clause-reads g c =
    record {
      kinds = tt;
      disk = reads_on (g.D.Disk.view c.args.disk.now) (g.D.Disk.view c.read_base.new.disk) (g.D.Disk.view c.read_half.new.disk)
          c.in_ok-epoch.ensures.reads.disk c.in-Ok.ensures.reads.disk (λ e. absurd cc);
    }

pub returns-in-Err-clause-reads : goal.returns-in-Err-clause-reads
returns-in-Err-clause-reads g c =
    record {
      kinds = subst (λ (n : ℕ). IsOfRowsOrRecords n c.in-Err.fault) c.in_ok-epoch.ensures.reads.disk.sectors c.in-Err.ensures.reads.kinds;
      disk = reads_on (g.D.Disk.view c.args.disk.now) (g.D.Disk.view c.read_base.new.disk) (g.D.Disk.view c.read_half.new.disk)
          c.in_ok-epoch.ensures.reads.disk c.in-Err.ensures.reads.disk (λ e. let is : c.in-Err.fault ≡ DiskFault = cc in ap Err is);
    }
