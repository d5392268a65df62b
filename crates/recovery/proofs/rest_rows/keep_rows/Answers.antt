use Rattle.std.proofs.Common.{◌≡◌, ◌∙◌, refl, arith}
use Rattle.sector_disk.specs.Disk.{View}
use Rattle.sector_disk.proofs.OnlyRead.{only_read_on, no_read}
use Rattle.recovery.specs.Rests.{without_rows}
use Rattle.recovery.specs.Inside.Rests.{kept_of}
use Rattle.recovery.proofs.Remains.{at_most, none_on, row_on}
use Rattle.recovery.proofs.rest_rows.keep_rows.Goals as goal

pub loop-k-preserved : goal.loop-k-preserved
loop-k-preserved g c =
    let old : View = g.D.Disk.view c.args.disk.now in
    let mid : View = g.D.Disk.view c.loop-k.disk in
    let slot = c.args.slot.now in
    record {
      sectors = c.in_ok-keep_row.ensures.reads.disk.sectors ∙ c.loop-k.invariant.sectors;
      later = omega (arith, c.in_ok-keep_row.ensures.reads.disk.later, c.loop-k.invariant.later);
      only_read = λ honest.
          let before = c.loop-k.invariant.only_read honest in
          only_read_on old mid _ before (c.in_ok-keep_row.ensures.reads.disk.only_read before.honest);
      only_reads = c.in_ok-keep_row.ensures.reads.disk.only_reads ∙ c.loop-k.invariant.only_reads;
      most = c.in_ok-keep_row.ensures.more c.loop-k.k c.loop-k.invariant.most;
      kept = λ honest.
          let before = c.loop-k.invariant.only_read honest in
          let here = rw before.reads at (c.in_ok-keep_row.ensures.kept before.honest) in
          row_on old.reads slot.first slot.stated c.loop-k.k (kept_of c.args.loader.now (without_rows slot.stated)) (kept_of c.loop-k.loader c.loop-k.kept)
          (kept_of c.keep_row.new.loader c.keep_row.new.kept) (c.loop-k.invariant.kept honest) here;
    }
