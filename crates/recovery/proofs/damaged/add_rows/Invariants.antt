use Rattle.std.proofs.Common.{◌≡◌, ◌++◌, ◌≤◌}
use Rattle.sector_disk.specs.Disk.{View}
use Rattle.sector_disk.specs.Reading.{before_reads}
use Rattle.sector_disk.specs.Run.{HasOnlyRead}
use Rattle.recovery.specs.Damage.{KeepsFirst, rows_damage}
use Rattle.recovery.proofs.damaged.add_rows.Given as goal

abbrev pub invariant-loop-k : goal.invariant-loop-k
invariant-loop-k g l =
    let old : View = g.D.Disk.view l.initial.disk in
    let now : View = g.D.Disk.view l.disk in
    record {
      sectors : now.sectors ≡ old.sectors;
      later : old.failures ≤ now.failures;
      only_read : old.honest → HasOnlyRead old now;
      only_reads : before_reads now.calls ≡ before_reads old.calls;
      first : KeepsFirst l.initial.found.items l.found.items;
      added : old.honest → l.found.items ≡ l.initial.found.items ++ rows_damage old.reads l.slot l.header l.from l.k;
    }
