use Rattle.std.proofs.Common.{◌≡◌, ◌-◌}
use Rattle.std.specs.Option.{is_some}
use Rattle.gated_journal.specs.Record.{commands_in}
use Rattle.gated_journal.proofs.record.are_commands.Given as goal

abbrev pub invariant-loop : goal.invariant-loop
invariant-loop g l = is_some (commands_in {A = g.row.A.Denot} (l.count - l.counter) l.rest) ≡ is_some (commands_in {A = g.row.A.Denot} l.count l.bytes)
