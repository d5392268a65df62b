use Rattle.std.proofs.Common.{◌≡◌, ◌≤◌, ◌<◌, ◌-◌}
use Rattle.sector_disk.specs.Disk.{View}
use Rattle.sector_disk.specs.Effects.{OnlyReads}
use Rattle.gated_journal.specs.Half.{counted, half_of, with_prefix}
use Rattle.gated_journal.specs.Reading.{entries_view}
use Rattle.gated_journal.specs.Settled.{HasNumbersLeft}
use Rattle.gated_journal.specs.Inside.Room.{capacity}
use Rattle.gated_journal.proofs.reading.read_half.Given as goal

abbrev pub invariant-loop-entries : goal.invariant-loop-entries
invariant-loop-entries g l =
    let old : View = g.D.Disk.view l.initial.disk in
    let now : View = g.D.Disk.view l.disk in
    record {
      first : l.rest.first ≡ l.place.first;
      end : l.rest.end ≡ l.place.end;
      form : l.rest.form ≡ l.place.form;
      up : l.place.next ≤ l.rest.next;
      within : l.rest.next < l.rest.end;
      counts : HasNumbersLeft l.rest;
      counted : l.rest.count ≡ counted l.place.count (entries_view l.entries.items);
      capacity : capacity l.initial.buffer ≤ capacity l.buffer;
      reads : OnlyReads old now ⊥;
      so_far : old.honest → with_prefix (entries_view l.entries.items) (half_of l.rest.form l.rest.count old.reads l.rest.next l.rest.end) ≡ half_of
          l.place.form l.place.count old.reads l.place.next l.place.end;
    }

abbrev pub decreases-loop-entries : goal.decreases-loop-entries
decreases-loop-entries g l = l.rest.end - l.rest.next
