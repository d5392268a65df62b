use Rattle.std.proofs.Common.{◌≡◌, drop}
use Rattle.recovery.specs.Rests.{run_while}
use Rattle.recovery.proofs.rest_records.apply_while.Given as goal

abbrev pub invariant-loop-command : goal.invariant-loop-command
invariant-loop-command g l = run_while l.register (drop l.command-index l.commands) ≡ run_while l.initial.register l.commands
