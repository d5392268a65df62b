use Rattle.std.proofs.Common.{◌≡◌, ◌+◌, ◌*◌, ◌-◌, ◌≤◌, length}
use Rattle.sector_disk.specs.Disk.{View}
use Rattle.sector_disk.specs.Reading.{before_reads}
use Rattle.sector_disk.specs.Run.{HasOnlyRead}
use Rattle.gated_journal.specs.Half.{data_from}
use Rattle.gated_journal.specs.Inside.Room.{capacity}
use Rattle.gated_journal.proofs.reading.read_sectors.Given as goal

abbrev pub invariant-loop-k : goal.invariant-loop-k
invariant-loop-k g l =
    let old : View = g.D.Disk.view l.initial.disk in
    let now : View = g.D.Disk.view l.disk in
    record {
      sectors : now.sectors ≡ old.sectors;
      room : length l.buffer.items + 512 * (l.n - l.k) ≤ capacity l.buffer;
      capacity : capacity l.initial.buffer ≤ capacity l.buffer;
      later : old.failures ≤ now.failures;
      only_read : old.honest → HasOnlyRead old now;
      only_reads : before_reads now.calls ≡ before_reads old.calls;
      calls : length now.calls + l.from ≡ length old.calls + l.k;
      bytes : old.honest → l.initial.buffer.items ≡ data_from old.reads l.at l.from → l.buffer.items ≡ data_from old.reads l.at l.k;
    }
