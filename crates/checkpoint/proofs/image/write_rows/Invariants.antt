use Rattle.std.proofs.Common.{◌≡◌, ◌≤◌, ◌++◌, ◌-◌, Ok, length}
use Rattle.sector_disk.specs.Disk.{View}
use Rattle.sector_disk.specs.Run.{writes}
use Rattle.sector_disk.specs.Filling.{HasFilled}
use Rattle.image_rows.specs.Rows.{rows_of}
use Rattle.checkpoint.specs.Calls.{row_sector}
use Rattle.checkpoint.proofs.Walked.{Walk}
use Rattle.checkpoint.proofs.image.write_rows.Given as goal

abbrev pub invariant-loop-coming : goal.invariant-loop-coming
invariant-loop-coming g l =
    let old : View = g.D.Disk.view l.initial.disk in
    let now : View = g.D.Disk.view l.disk in
    record {
      walk : Walk l.epoch l.register l.coming l.written;
      sectors : now.sectors ≡ old.sectors;
      failures : old.failures ≤ now.failures;
      calls : now.calls ≡ old.calls ++ writes l.at l.written (row_sector (l.epoch, l.register));
      filled : old.honest → HasFilled old now l.at l.written (row_sector (l.epoch, l.register)) (Ok tt);
    }

abbrev pub decreases-loop-coming : goal.decreases-loop-coming
decreases-loop-coming g l = length (rows_of l.epoch l.register) - l.written
