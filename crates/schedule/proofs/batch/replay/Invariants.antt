use Rattle.std.proofs.Common.{◌≡◌, drop}
use Rattle.centre_core.specs.History.{after}
use Rattle.schedule.specs.World.{ground}
use Rattle.schedule.proofs.batch.replay.Given as goal

abbrev pub invariant-loop-command : goal.invariant-loop-command
invariant-loop-command g l = after l.register (drop l.command-index l.commands) ≡ after ground l.commands
