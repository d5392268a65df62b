use Rattle.std.proofs.Common.{◌≡◌}
use Rattle.crossbeam_queue.specs.Passes.{view as known, IsPassOf}
use Rattle.station_queue.specs.Order.{IsSameTaker}
use Rattle.station_queue.proofs.taker.fill.Given as goal

abbrev pub invariant-loop : goal.invariant-loop
invariant-loop l =
    IsPassOf l.queue l.pass × (l.pass.table_id ≡ l.initial.pass.table_id) × IsSameTaker (known l.initial.pass) (known l.pass) × (l.left ≡ (known l.pass).places) × (l.returns ≡ l.initial.returns)
