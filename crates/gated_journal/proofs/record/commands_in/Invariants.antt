use Rattle.std.proofs.Common.{◌≡◌, ◌-◌, ◌++◌, option_map}
use Rattle.gated_journal.specs.Record.{commands_in}
use Rattle.gated_journal.proofs.record.commands_in.Given as goal

abbrev pub invariant-loop : goal.invariant-loop
invariant-loop g l = option_map (λ others. l.commands.items ++ others) (commands_in (l.count - l.counter) l.rest) ≡ commands_in l.count l.bytes
