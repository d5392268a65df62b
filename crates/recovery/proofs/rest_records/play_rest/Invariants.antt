use Rattle.std.proofs.Common.{◌≡◌, ◌<◌, ◌≤◌, ◌-◌, ℕ, Option, None}
use Rattle.sector_disk.specs.Disk.{View}
use Rattle.sector_disk.specs.Reading.{before_reads}
use Rattle.sector_disk.specs.Run.{HasOnlyRead}
use Rattle.centre_core.specs.State.{State}
use Rattle.gated_journal.specs.Settled.{HasNumbersLeft}
use Rattle.recovery.specs.Rests.{LeadsTo}
use Rattle.recovery.specs.Inside.Rests.{HasLater}
use Rattle.recovery.proofs.rest_records.play_rest.Given as goal

abbrev pub invariant-loop : goal.invariant-loop
invariant-loop g l =
    let old : View = g.D.Disk.view l.initial.disk in
    let now : View = g.D.Disk.view l.disk in
    record {
      form : l.journal.form ≡ l.initial.journal.form;
      room : HasNumbersLeft l.journal;
      before : l.journal.next < l.initial.journal.end;
      first : l.journal.first ≡ l.initial.journal.first;
      end : l.journal.end ≡ l.initial.journal.end;
      stop : l.stop ≡ None;
      sectors : now.sectors ≡ old.sectors;
      later : old.failures ≤ now.failures;
      only_read : old.honest → HasOnlyRead old now;
      only_reads : before_reads now.calls ≡ before_reads old.calls;
      leads : old.honest → (u : State) (bad : Option ℕ) → LeadsTo g.row.A.Denot l.journal.form old.reads l.journal.end l.journal.count l.journal.next l.register u bad
          → LeadsTo g.row.A.Denot l.initial.journal.form old.reads l.initial.journal.end l.initial.journal.count l.initial.journal.next l.initial.register u bad;
      after : old.honest → (at later : ℕ) → HasLater g.row.A.Denot l.journal old at later → HasLater g.row.A.Denot l.initial.journal old at later;
    }

abbrev pub decreases-loop : goal.decreases-loop
decreases-loop g l = l.initial.journal.end - l.journal.next
