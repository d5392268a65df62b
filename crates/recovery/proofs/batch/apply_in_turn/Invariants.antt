use Rattle.std.proofs.Common.{◌≤◌, vec_capacity, vec_len}
use Rattle.recovery.specs.Outcomes.{AreApplied, asked}
use Rattle.recovery.proofs.batch.apply_in_turn.Given as goal

abbrev pub invariant-loop-command : goal.invariant-loop-command
invariant-loop-command g l = record {
  applied : AreApplied l.initial.register (asked l.commands) l.command-index l.register l.outcomes.items (asked l.accepted.items);
  places : vec_len l.outcomes ≤ l.command-index;
  also_places : vec_len l.accepted ≤ l.command-index;
  capacity : vec_capacity l.initial.outcomes ≤ vec_capacity l.outcomes;
  also_capacity : vec_capacity l.initial.accepted ≤ vec_capacity l.accepted;
}
