use Rattle.std.proofs.Common.{◌≡◌, ◌≤◌, ◌-◌}
use Rattle.sector_disk.specs.Disk.{View}
use Rattle.sector_disk.specs.Reading.{before_reads}
use Rattle.sector_disk.specs.Run.{HasOnlyRead}
use Rattle.image_rows.specs.Rows.{HeaderRow}
use Rattle.image_rows.specs.RowReading.{IsRow}
use Rattle.recovery.specs.Rests.{left_in, made_by}
use Rattle.recovery.proofs.rest_rows.read_rest_base.Given as goal

abbrev pub invariant-loop : goal.invariant-loop
invariant-loop g l =
    let old : View = g.D.Disk.view l.fn.disk in
    let now : View = g.D.Disk.view l.disk in
    record {
      sectors : now.sectors ≡ old.sectors;
      later : old.failures ≤ now.failures;
      only_read : old.honest → HasOnlyRead old now;
      only_reads : before_reads now.calls ≡ before_reads old.calls;
      row : IsRow (HeaderRow l.slot.stated) → IsRow (HeaderRow l.header);
      made : old.honest → IsRow (HeaderRow l.slot.stated)
          → left_in l.slot.limits old.reads l.slot.first l.slot.stated ≡ made_by l.slot.limits old.reads l.slot.first l.slot.stated (5 - l.counter) l.header;
    }
