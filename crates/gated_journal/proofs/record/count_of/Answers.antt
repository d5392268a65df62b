use Rattle.std.proofs.Common.{sym, ◌∙◌}
use Rattle.gated_journal.proofs.Listed.{counted_in, none_counted}
use Rattle.gated_journal.proofs.record.count_of.Goals as goal

pub returns-then-are_commands : goal.returns-then-are_commands
returns-then-are_commands g c = counted_in g.row.A.Denot c.args.packed.now.count c.args.packed.now.commands.now (sym c.are_commands.ensures ∙ c.if-are_commands.true)

pub returns-else-are_commands : goal.returns-else-are_commands
returns-else-are_commands g c = none_counted g.row.A.Denot c.args.packed.now.count c.args.packed.now.commands.now (sym c.are_commands.ensures ∙ c.if-are_commands.false)
