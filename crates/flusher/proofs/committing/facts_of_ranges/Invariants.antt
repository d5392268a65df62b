use Rattle.std.proofs.Common.{All, take}
use Rattle.centre_core.specs.Ranges.{InRange}
use Rattle.flusher.proofs.committing.facts_of_ranges.Given as goal

abbrev pub invariant-loop-command : goal.invariant-loop-command
invariant-loop-command l = All (λ command. InRange command.now) (take l.command-index l.commands)
