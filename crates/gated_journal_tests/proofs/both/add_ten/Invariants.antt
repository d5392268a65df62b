use Rattle.std.proofs.Common.{◌≡◌, ◌≤◌}
use Rattle.gated_journal_tests.proofs.both.add_ten.Given as goal

abbrev pub invariant-loop : goal.invariant-loop
invariant-loop g l = record {
  end : l.first.end ≡ 628;
  count : l.first.count ≤ l.counter;
}
