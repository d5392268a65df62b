use Rattle.std.proofs.Common.{◌<◌, length, arith}
use Rattle.base.proofs.Results.{on_err}
use Rattle.recovery.proofs.Batches.{applied_one, stopped}
use Rattle.recovery.proofs.batch.apply_in_turn.Goals as goal

pub returns-in_err-apply_one-clause-some : goal.returns-in_err-apply_one-clause-some
returns-in_err-apply_one-clause-some g c =
    let i = c.loop-command.command-index in
    let lt : i < length c.args.commands.now = omega (arith, c.loop-command-test.true) in
    let same = c.in_err-apply_one.ensures.same in
    on_err c.from_residual.result (stopped c.args.register.now c.loop-command.register c.apply_one.new.register c.args.commands.now i c.command-item.result
    c.loop-command.outcomes.items c.apply_one.new.outcomes.items c.loop-command.accepted.items c.apply_one.new.accepted.items
    lt c.command-item.is c.loop-command.invariant.applied c.in_err-apply_one.ensures.memory same.0 same.1 same.2)

pub loop-command-preserved : goal.loop-command-preserved
loop-command-preserved g c =
    let i = c.loop-command.command-index in
    let lt : i < length c.args.commands.now = omega (arith, c.loop-command-test.true) in
    let one = c.in_ok-apply_one.ensures in
    record {
      applied =
          applied_one c.args.register.now c.loop-command.register c.apply_one.new.register c.args.commands.now i c.command-item.result c.loop-command.outcomes.items c.apply_one.new.outcomes.items _ _
          lt c.command-item.is c.loop-command.invariant.applied one.register one.outcomes one.accepted;
      places = omega (arith, c.loop-command.invariant.places, one.places);
      also_places = omega (arith, c.loop-command.invariant.also_places, one.also_places);
      capacity = omega (arith, c.loop-command.invariant.capacity, one.capacity);
      also_capacity = omega (arith, c.loop-command.invariant.also_capacity, one.also_capacity);
    }
