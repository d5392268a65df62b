use Rattle.std.proofs.Common.{◌≡◌, ◌+◌, Some, drop, take}
use Rattle.recovery.specs.Opens.{run}
use Rattle.recovery.proofs.records.play_record.Given as goal

abbrev pub invariant-loop-command : goal.invariant-loop-command
invariant-loop-command g l = record {
  so_far : run l.register (drop l.command-index l.commands) ≡ run l.initial.register l.commands;
  done : run l.initial.register (take l.command-index l.commands) ≡ Some l.register;
  counted : l.register.count ≡ l.initial.register.count + l.command-index;
  limits : l.register.registered.limits ≡ l.initial.register.registered.limits;
}
