use Rattle.std.proofs.Common.{◌≡◌, ◌≤◌, ◌++◌, take}
use Rattle.std.specs.List.{All, flat_map}
use Rattle.command_bytes.specs.Text.{IsCommand, command_text}
use Rattle.gated_journal.specs.Inside.Room.{capacity}
use Rattle.gated_journal.proofs.journal.add_all.Given as goal

abbrev pub invariant-loop-command : goal.invariant-loop-command
invariant-loop-command g l = record {
  items : l.out.items ≡ l.initial.out.items ++ flat_map (λ command. command_text command.now) (take l.command-index l.commands);
  capacity : capacity l.initial.out ≤ capacity l.out;
  are_commands : All (λ command. IsCommand command.now) (take l.command-index l.commands);
}
