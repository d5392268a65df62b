use Rattle.std.proofs.Common.{◌≡◌, ◌≤◌, ◌<◌, ◌+◌, ◌-◌, length, List}
use Rattle.sector_disk.specs.Disk.{View}
use Rattle.sector_disk.specs.Effects.{OnlyReads}
use Rattle.gated_journal.specs.Half.{RecordAt, half_of, with_prefix}
use Rattle.gated_journal.specs.Settled.{HasNumbersLeft}
use Rattle.gated_journal.specs.Inside.Room.{capacity}
use Rattle.gated_journal.proofs.reading.judge_half.Given as goal

abbrev pub invariant-loop-count : goal.invariant-loop-count
invariant-loop-count g l =
    let old : View = g.D.Disk.view l.initial.disk in
    let now : View = g.D.Disk.view l.disk in
    record {
      end : l.rest.end ≡ l.place.end;
      form : l.rest.form ≡ l.place.form;
      up : l.place.next ≤ l.rest.next;
      within : l.rest.next < l.rest.end;
      counts : HasNumbersLeft l.rest;
      capacity : capacity l.initial.buffer ≤ capacity l.buffer;
      reads : OnlyReads old now ⊥;
      calls : length now.calls + l.place.next ≡ length old.calls + l.rest.next;
      so_far : old.honest → (prefix : List (RecordAt g.row.A.Denot)) ×
          (with_prefix prefix (half_of l.rest.form l.rest.count old.reads l.rest.next l.rest.end) ≡ half_of l.place.form l.place.count old.reads
          l.place.next l.place.end);
    }

abbrev pub decreases-loop-count : goal.decreases-loop-count
decreases-loop-count g l = l.rest.end - l.rest.next
