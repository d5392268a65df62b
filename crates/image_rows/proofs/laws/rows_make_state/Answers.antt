use Rattle.image_rows.proofs.RowsOfState.{rows_make_state}
use Rattle.image_rows.proofs.laws.rows_make_state.Goals as goal

pub returns : goal.returns
returns c = rows_make_state
