use Rattle.std.proofs.Common.{◌≡◌, ◌≤◌}
use Rattle.gated_journal_tests.proofs.records.is_filled.Given as goal

abbrev pub invariant-loop : goal.invariant-loop
invariant-loop g l = record {
  end : l.journal.end ≡ 39;
  count : l.journal.count ≤ l.counter;
}
