use Rattle.std.proofs.Common.{◌∙◌, arith}
use Rattle.sector_disk.specs.Disk.{View}
use Rattle.sector_disk.proofs.OnlyRead.{only_read_on}
use Rattle.recovery.proofs.FirstDamage.{rows_more}
use Rattle.recovery.proofs.damaged.add_rows.Goals as goal

pub loop-k-preserved : goal.loop-k-preserved
loop-k-preserved g c =
    let old : View = g.D.Disk.view c.args.disk.now in
    let mid : View = g.D.Disk.view c.loop-k.disk in
    record {
      sectors = c.in_ok-add_row.ensures.reads.disk.sectors ∙ c.loop-k.invariant.sectors;
      later = omega (arith, c.in_ok-add_row.ensures.reads.disk.later, c.loop-k.invariant.later);
      only_read = λ honest.
          let before = c.loop-k.invariant.only_read honest in
          only_read_on old mid _ before (c.in_ok-add_row.ensures.reads.disk.only_read before.honest);
      only_reads = c.in_ok-add_row.ensures.reads.disk.only_reads ∙ c.loop-k.invariant.only_reads;
      first = λ first begins. c.in_ok-add_row.ensures.adds.first first (c.loop-k.invariant.first first begins);
      added = λ honest.
          let before = c.loop-k.invariant.only_read honest in
          let here = rw before.reads at (c.in_ok-add_row.ensures.adds.added before.honest) in
          rows_more old.reads c.args.slot c.args.header.now c.args.from c.loop-k.k c.args.found.now.items c.loop-k.found.items c.add_row.new.found.items
          (c.loop-k.invariant.added honest) here;
    }
