use Rattle.std.proofs.Common.{◌≡◌, ◌≤◌, ◌+◌, Ok}
use Rattle.sector_disk.specs.Disk.{View}
use Rattle.sector_disk.specs.Filling.{HasFilled, part_of, sectors_in}
use Rattle.file_disk.proofs.run.write_each.Given as goal

abbrev pub invariant-loop-k : goal.invariant-loop-k
invariant-loop-k g l =
    let old : View = g.F.SectorFile.view l.initial.file in
    let now : View = g.F.SectorFile.view l.file in
    record {
      sectors : now.sectors ≡ old.sectors;
      later : old.failures ≤ now.failures;
      filled : l.at + sectors_in l.bytes ≤ old.sectors → old.honest → HasFilled old now l.at l.k (part_of l.bytes) (Ok tt);
    }
