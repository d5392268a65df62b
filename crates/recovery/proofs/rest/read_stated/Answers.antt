use Rattle.std.proofs.Common.{◌≡◌, ◌∙◌, Err, List, ℕ, ap, subst, sym}
use Rattle.sector_disk.specs.Disk.{View}
use Rattle.checkpoint.specs.Layout.{half_at, half_end}
use Rattle.checkpoint.specs.OnSide.{slot_form}
use Rattle.recovery.specs.declared.fault.StoreFault.TheVariants.{DiskFault}
use Rattle.recovery.specs.Rests.{AreLaterIn, AreLaterOf, LeadsTo}
use Rattle.sector_disk.proofs.Effects.{reads_on}
use Rattle.recovery.proofs.rest.read_stated.Goals as goal

pub returns-in-Ok-clause-left : goal.returns-in-Ok-clause-left
returns-in-Ok-clause-left g c honest form is_row has =
    let layout = c.args.layout.now in
    let side = c.args.side in
    let h = c.args.stated.header in
    let read = c.in_ok-found.ensures.reads.disk.only_read honest in
    let form_there = subst (λ (i : List (List ℕ)). c.args.stated.form ≡ slot_form layout side i) (sym read.reads) form in
    let records = subst (λ (i : List (List ℕ)). LeadsTo g.row.A.Denot (slot_form layout side i) i (half_end layout side) h.count (half_at layout side)
    c.in-Some.base.1 c.in-Ok.rest.register c.in-Ok.rest.stop) read.reads (c.in-Ok.ensures.records read.honest form_there) in
    let later : AreLaterOf g.row.A.Denot layout side (g.D.Disk.view c.args.disk.now).reads c.in-Ok.rest.stop c.in-Ok.rest.later = (
      h,
      has,
      subst (λ (i : List (List ℕ)). AreLaterIn g.row.A.Denot layout side i h.count c.in-Ok.rest.stop c.in-Ok.rest.later) read.reads (c.in-Ok.ensures.after read.honest form_there),
    ) in (
      c.in-Ok.ensures.side,
      record {
        stated = h;
        kept = c.in-Some.base.0;
        base = c.in-Some.base.1;
        header = has;
        rows = rw (c.limits.ensures, c.slot.ensures) at (sym (c.in_ok-found.ensures.exact honest is_row) ∙ c.in-Some.is);
        records = records;
        of_epoch = c.in-Ok.ensures.epoch;
        missing = c.in-Ok.ensures.out;
      },
      later,
    )

pub returns-in-Ok-clause-reads : goal.returns-in-Ok-clause-reads
returns-in-Ok-clause-reads g c =
    record {
      kinds = tt;
      disk = reads_on (g.D.Disk.view c.args.disk.now) (g.D.Disk.view c.read_rest_base.new.disk) _ c.in_ok-found.ensures.reads.disk c.in-Ok.ensures.reads.disk (λ e. absurd cc);
    }

pub returns-in-Err-clause-reads : goal.returns-in-Err-clause-reads
returns-in-Err-clause-reads g c =
    record {
      kinds = c.in-Err.ensures.reads.kinds;
      disk = reads_on (g.D.Disk.view c.args.disk.now) (g.D.Disk.view c.read_rest_base.new.disk) (g.D.Disk.view c.read_after_base.new.disk)
          c.in_ok-found.ensures.reads.disk c.in-Err.ensures.reads.disk (λ e. let is : c.in-Err.fault ≡ DiskFault = cc in ap Err is);
    }
