use Rattle.std.proofs.Common.{◌≡◌, ◌+◌, ◌<◌, ◌∙◌, ap, length, take, arith}
use Rattle.std.specs.List.{flat_map}
use Rattle.std.proofs.lemmas.List.{length-append}
use Rattle.command_bytes.specs.Text.{command_text}
use Rattle.gated_journal.proofs.Given.{one_fits, one_more, one_more_is}
use Rattle.gated_journal.proofs.journal.add_all.Goals as goal

pub add_command-requires : goal.add_command-requires
add_command-requires g c =
    let part = one_fits c.args.commands.now c.loop-command.command-index c.command-item.result (omega (arith, c.loop-command-test.true)) c.command-item.is in
    let prefix = flat_map (λ command. command_text command.now) (take c.loop-command.command-index c.args.commands.now) in
    let long : length c.loop-command.out.items ≡ length c.args.out.now.items + length prefix = ap length c.loop-command.invariant.items ∙ length-append c.args.out.now.items prefix in
    record { room = omega (arith, part, long, c.loop-command.invariant.capacity, c.requires.room) }

pub loop-command-preserved : goal.loop-command-preserved
loop-command-preserved g c =
    let lt : c.loop-command.command-index < length c.args.commands.now = omega (arith, c.loop-command-test.true) in
    record {
      items = one_more c.args.commands.now c.loop-command.command-index c.command-item.result lt c.command-item.is c.args.out.now.items
          c.loop-command.out.items c.add_command.new.self.items c.loop-command.invariant.items c.add_command.ensures.items;
      capacity = omega (arith, c.add_command.ensures.capacity, c.loop-command.invariant.capacity);
      are_commands = one_more_is c.args.commands.now c.loop-command.command-index c.command-item.result lt c.command-item.is c.loop-command.invariant.are_commands c.add_command.ensures.is_command;
    }
