use Rattle.std.proofs.Common.{◌≡◌, ◌+◌, drop}
use Rattle.image_rows.specs.Rows.{served_rows}
use Rattle.image_rows.specs.Parts.{first}
use Rattle.image_rows.proofs.in_turn.station_after.Given as goal

abbrev pub invariant-loop-station : goal.invariant-loop-station
invariant-loop-station g l = first (served_rows (l.after + 1) (drop l.after l.register.served)) ≡ first (served_rows (l.station + 1) (drop l.station l.register.served))
