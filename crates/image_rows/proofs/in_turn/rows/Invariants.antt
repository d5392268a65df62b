use Rattle.std.proofs.Common.{◌+◌, ◌-◌, length}
use Rattle.image_rows.specs.Rows.{rows_of}
use Rattle.image_rows.proofs.InTurn.{Going}
use Rattle.image_rows.proofs.in_turn.rows.Given as goal

abbrev pub invariant-loop-coming : goal.invariant-loop-coming
invariant-loop-coming g l = Going l.epoch l.register l.list.items l.coming

abbrev pub decreases-loop-coming : goal.decreases-loop-coming
decreases-loop-coming g l = length (rows_of l.epoch l.register) + 1 - length l.list.items
