use Rattle.std.proofs.Common.{◌≡◌, ◌≤◌}
use Rattle.sector_disk.specs.Disk.{View}
use Rattle.sector_disk.specs.Reading.{before_reads}
use Rattle.sector_disk.specs.Run.{HasOnlyRead}
use Rattle.recovery.specs.Rests.{rows_kept, without_rows}
use Rattle.recovery.specs.Inside.Rests.{HasAtMost, kept_of}
use Rattle.recovery.proofs.rest_rows.keep_rows.Given as goal

abbrev pub invariant-loop-k : goal.invariant-loop-k
invariant-loop-k g l =
    let old : View = g.D.Disk.view l.fn.disk in
    let now : View = g.D.Disk.view l.disk in
    record {
      sectors : now.sectors ≡ old.sectors;
      later : old.failures ≤ now.failures;
      only_read : old.honest → HasOnlyRead old now;
      only_reads : before_reads now.calls ≡ before_reads old.calls;
      most : HasAtMost l.k l.kept;
      kept : old.honest → kept_of l.loader l.kept ≡ rows_kept old.reads l.slot.first l.slot.stated (kept_of l.fn.loader (without_rows l.slot.stated)) l.k;
    }
