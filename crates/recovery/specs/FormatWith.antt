-- The calls of the disk that a format with a register makes.
use Rattle.std.specs.Prelude.{List, [], ◌∷◌, ◌++◌}
use Rattle.sector_disk.specs.declared.record.Call.{Call}
use Rattle.sector_disk.specs.declared.record.Call.TheVariants.{Sync, Write}
use Rattle.centre_core.specs.State.{State}
use Rattle.checkpoint.specs.Calls.{row_calls}
use Rattle.checkpoint.specs.declared.layout.Layout.{Layout}
use Rattle.checkpoint.specs.declared.side.Side.TheVariants as side
use Rattle.checkpoint.specs.Layout.{label_at, slot_at}
use Rattle.recovery.specs.Calls.{label_sector, side_calls}

-- the sides are written as for an empty register, then to the slot of side A the rows of the register's image, of epoch 1
abbrev pub filled_calls : Layout → State → List Call
filled_calls layout state = side_calls layout ++ row_calls (slot_at layout side.A) (1, state) ++ Sync ∷ []

-- the sides and the rows are written and synced as by `filled_calls`, then the label is written and synced
abbrev pub format_with_calls : Layout → State → List Call
format_with_calls layout state = filled_calls layout state ++ Write label_at (label_sector layout) ∷ Sync ∷ []
