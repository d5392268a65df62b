use Rattle.std.proofs.Common.{◌≡◌, ◌≤◌, ◌++◌, Ok}
use Rattle.sector_disk.specs.Disk.{View}
use Rattle.sector_disk.specs.Run.{writes}
use Rattle.sector_disk.specs.Filling.{HasFilled}
use Rattle.gated_journal.specs.Record.{data_sector}
use Rattle.gated_journal.proofs.place.fill.Given as goal

abbrev pub invariant-loop-k : goal.invariant-loop-k
invariant-loop-k g l =
    let old : View = g.D.Disk.view l.initial.disk in
    let now : View = g.D.Disk.view l.disk in
    record {
      sectors : now.sectors ≡ old.sectors;
      failures : old.failures ≤ now.failures;
      calls : now.calls ≡ old.calls ++ writes l.at l.k (data_sector l.data.text.now);
      filled : old.honest → HasFilled old now l.at l.k (data_sector l.data.text.now) (Ok tt);
    }
