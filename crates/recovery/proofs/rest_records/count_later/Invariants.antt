use Rattle.std.proofs.Common.{◌≡◌, ◌+◌, ◌<◌, ◌≤◌, ◌-◌, ℕ}
use Rattle.sector_disk.specs.Disk.{View}
use Rattle.sector_disk.specs.Reading.{before_reads}
use Rattle.sector_disk.specs.Run.{HasOnlyRead}
use Rattle.gated_journal.specs.Settled.{HasNumbersLeft}
use Rattle.recovery.specs.Inside.Rests.{CanRead}
use Rattle.recovery.proofs.rest_records.count_later.Given as goal

abbrev pub invariant-loop-later : goal.invariant-loop-later
invariant-loop-later g l =
    let old : View = g.D.Disk.view l.initial.disk in
    let now : View = g.D.Disk.view l.disk in
    record {
      room : HasNumbersLeft l.journal;
      before : l.journal.next < l.initial.journal.end;
      end : l.journal.end ≡ l.initial.journal.end;
      form : l.journal.form ≡ l.initial.journal.form;
      few : l.later + (l.initial.journal.end - l.journal.next) ≤ l.initial.journal.end - l.initial.journal.next;
      readable : old.honest → (n : ℕ) → CanRead g.row.A.Denot l.journal old n → CanRead g.row.A.Denot l.initial.journal old (l.later + n);
      sectors : now.sectors ≡ old.sectors;
      more_failures : old.failures ≤ now.failures;
      only_read : old.honest → HasOnlyRead old now;
      only_reads : before_reads now.calls ≡ before_reads old.calls;
    }

abbrev pub decreases-loop-later : goal.decreases-loop-later
decreases-loop-later g l = l.initial.journal.end - l.journal.next
