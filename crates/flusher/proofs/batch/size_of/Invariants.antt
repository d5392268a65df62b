use Rattle.std.proofs.Common.{◌≡◌, ◌*◌, ◌≤◌, length, take}
use Rattle.std.specs.List.{flat_map}
use Rattle.command_bytes.specs.Text.{command_text, longest}
use Rattle.flusher.proofs.batch.size_of.Given as goal

abbrev pub invariant-loop-command : goal.invariant-loop-command
invariant-loop-command l = record {
  size : l.size ≡ length (flat_map (λ command. command_text command.now) (take l.command-index l.commands));
  most : l.size ≤ longest * l.command-index;
}
