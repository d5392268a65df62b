use Rattle.std.proofs.Common.{◌≡◌, ◌+◌, ◌<◌, ◌≤◌, ◌-◌, length}
use Rattle.sector_disk.specs.Disk.{View}
use Rattle.sector_disk.specs.Reading.{before_reads}
use Rattle.sector_disk.specs.Run.{HasOnlyRead}
use Rattle.gated_journal.specs.Half.{half_of}
use Rattle.gated_journal.specs.Settled.{HasNumbersLeft}
use Rattle.recovery.specs.Inside.Played.{HasPlayed}
use Rattle.recovery.specs.Opens.{played_from}
use Rattle.recovery.proofs.records.play_on.Given as goal

abbrev pub invariant-loop : goal.invariant-loop
invariant-loop g l =
    let old : View = g.D.Disk.view l.initial.disk in
    let now : View = g.D.Disk.view l.disk in
    record {
      form : l.journal.form ≡ l.initial.journal.form;
      counts : l.initial.journal.count ≡ l.initial.register.count → l.journal.count ≡ l.register.count;
      room : HasNumbersLeft l.journal;
      before : l.journal.next < l.initial.journal.end;
      first : l.journal.first ≡ l.initial.journal.first;
      end : l.journal.end ≡ l.initial.journal.end;
      limits : l.register.registered.limits ≡ l.initial.register.registered.limits;
      up : l.initial.journal.next ≤ l.journal.next;
      calls : length now.calls + l.initial.journal.next ≡ length old.calls + l.journal.next;
      sectors : now.sectors ≡ old.sectors;
      later : old.failures ≤ now.failures;
      only_read : old.honest → HasOnlyRead old now;
      only_reads : before_reads now.calls ≡ before_reads old.calls;
      moved : old.honest →
          HasPlayed l.initial.register l.register (half_of {A = g.row.A.Denot} l.initial.journal.form l.initial.journal.count old.reads
          l.initial.journal.next l.initial.journal.end)
          (half_of {A = g.row.A.Denot} l.journal.form l.journal.count old.reads l.journal.next l.initial.journal.end);
      so_far : old.honest →
          played_from l.initial.register
          (half_of {A = g.row.A.Denot} l.initial.journal.form l.initial.journal.count old.reads l.initial.journal.next l.initial.journal.end) ≡
          played_from l.register (half_of {A = g.row.A.Denot} l.journal.form l.journal.count old.reads l.journal.next l.initial.journal.end);
    }

abbrev pub decreases-loop : goal.decreases-loop
decreases-loop g l = l.initial.journal.end - l.journal.next
