use Rattle.std.proofs.Common.{◌≡◌, ◌≤◌, ◌++◌, ◌+◌, ◌-◌, Ok}
use Rattle.sector_disk.specs.Disk.{View}
use Rattle.sector_disk.specs.Run.{writes}
use Rattle.sector_disk.specs.Filling.{HasFilled}
use Rattle.checkpoint.specs.Progress.{IsProgress, next_row}
use Rattle.checkpoint.proofs.progress.put_rows.Given as goal

abbrev pub invariant-loop-left : goal.invariant-loop-left
invariant-loop-left g l =
    let old : View = g.D.Disk.view l.initial.disk in
    let now : View = g.D.Disk.view l.disk in
    record {
      progress : IsProgress l.epoch l.register l.progress;
      count : l.progress.written + l.left ≡ l.initial.progress.written + 8;
      most : l.left ≤ 8;
      epoch : l.progress.epoch ≡ l.initial.progress.epoch;
      sectors : now.sectors ≡ old.sectors;
      failures : old.failures ≤ now.failures;
      calls : now.calls ≡ old.calls ++ writes (l.at + l.initial.progress.written) (l.progress.written - l.initial.progress.written) (next_row (l.epoch, l.register) l.initial.progress.written);
      filled : old.honest → HasFilled old now (l.at + l.initial.progress.written) (l.progress.written - l.initial.progress.written) (next_row (l.epoch, l.register) l.initial.progress.written) (Ok tt);
    }

abbrev pub decreases-loop-left : goal.decreases-loop-left
decreases-loop-left g l = l.left
