use Rattle.std.proofs.Common.{◌≡◌, ◌≤◌, ◌*◌}
use Rattle.gated_journal.specs.Record.{most_commands}
use Rattle.bench_registers.proofs.journal.fill.Given as goal

abbrev pub invariant-loop-k : goal.invariant-loop-k
invariant-loop-k g l = (l.journal.end ≡ 39) × (l.journal.count ≤ most_commands * l.k)
