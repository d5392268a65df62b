use Rattle.std.proofs.Common.{◌≡◌, ◌≤◌, ◌++◌, Ok}
use Rattle.sector_disk.specs.Disk.{View}
use Rattle.sector_disk.specs.Run.{writes}
use Rattle.sector_disk.specs.Filling.{HasFilled, part_of}
use Rattle.sector_disk.proofs.disk.Disk.write_run.Given as goal

abbrev pub invariant-loop-k : goal.invariant-loop-k
invariant-loop-k g l =
    let old : View = g.Self.Disk.view l.initial.self in
    let now : View = g.Self.Disk.view l.self in
    record {
      sectors : now.sectors ≡ old.sectors;
      failures : old.failures ≤ now.failures;
      calls : now.calls ≡ old.calls ++ writes l.at l.k (part_of l.bytes);
      filled : old.honest → HasFilled old now l.at l.k (part_of l.bytes) (Ok tt);
    }
