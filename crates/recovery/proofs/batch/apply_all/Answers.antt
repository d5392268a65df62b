use Rattle.std.proofs.Common.{arith}
use Rattle.recovery.specs.Outcomes.{asked}
use Rattle.recovery.proofs.Batches.{ends, ends_answered, ends_count, ends_counted, ends_history, ends_recorded, ends_limits, ends_none, ends_places, ends_size, ends_state}
use Rattle.recovery.proofs.batch.apply_all.Goals as goal

pub fill_up-requires-clause-some : goal.fill_up-requires-clause-some
fill_up-requires-clause-some g c =
    let e = ends c.args.register.now c.apply_in_turn.new.register c.args.commands.now c.apply_in_turn.new.outcomes.items
    (asked c.apply_in_turn.new.accepted.items) c.apply_in_turn.result c.apply_in_turn.ensures.all c.apply_in_turn.ensures.some in
    omega (
      arith,
      ends_places c.args.register.now c.apply_in_turn.new.register c.args.commands.now c.apply_in_turn.new.accepted.items
          c.apply_in_turn.new.outcomes.items e,
      c.apply_in_turn.new.outcomes.ok,
    )

pub returns-clause-answered : goal.returns-clause-answered
returns-clause-answered g c =
    let e = ends c.args.register.now c.apply_in_turn.new.register c.args.commands.now c.apply_in_turn.new.outcomes.items
    (asked c.apply_in_turn.new.accepted.items) c.apply_in_turn.result c.apply_in_turn.ensures.all c.apply_in_turn.ensures.some in
    ends_answered c.args.register.now c.apply_in_turn.new.register c.args.commands.now c.apply_in_turn.new.accepted.items
    c.apply_in_turn.new.outcomes.items e c.fill_up.new.outcomes.items _ c.apply_in_turn.new.outcomes.ok.0 c.fill_up.ensures

pub returns-clause-accepted : goal.returns-clause-accepted
returns-clause-accepted g c =
    let e = ends c.args.register.now c.apply_in_turn.new.register c.args.commands.now c.apply_in_turn.new.outcomes.items
    (asked c.apply_in_turn.new.accepted.items) c.apply_in_turn.result c.apply_in_turn.ensures.all c.apply_in_turn.ensures.some in
    record {
      history = ends_history c.args.register.now c.apply_in_turn.new.register c.args.commands.now c.apply_in_turn.new.accepted.items c.apply_in_turn.new.outcomes.items e;
      state = ends_state c.args.register.now c.apply_in_turn.new.register c.args.commands.now c.apply_in_turn.new.accepted.items c.apply_in_turn.new.outcomes.items e;
      limits = ends_limits c.args.register.now c.apply_in_turn.new.register c.args.commands.now c.apply_in_turn.new.accepted.items c.apply_in_turn.new.outcomes.items e;
      count = ends_count c.args.register.now c.apply_in_turn.new.register c.args.commands.now c.apply_in_turn.new.accepted.items c.apply_in_turn.new.outcomes.items e;
      counted = ends_counted c.args.register.now c.apply_in_turn.new.register c.args.commands.now c.apply_in_turn.new.accepted.items c.apply_in_turn.new.outcomes.items e;
      size = ends_size c.args.register.now c.apply_in_turn.new.register c.args.commands.now c.apply_in_turn.new.accepted.items c.apply_in_turn.new.outcomes.items e;
      none = ends_none c.args.register.now c.apply_in_turn.new.register c.args.commands.now c.apply_in_turn.new.accepted.items c.apply_in_turn.new.outcomes.items e;
      recorded = ends_recorded c.args.register.now c.apply_in_turn.new.register c.args.commands.now c.apply_in_turn.new.accepted.items c.apply_in_turn.new.outcomes.items e g.row.A.Denot;
    }
