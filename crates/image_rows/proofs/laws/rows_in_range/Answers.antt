use Rattle.image_rows.proofs.Ranges.{rows_in_range}
use Rattle.image_rows.proofs.laws.rows_in_range.Goals as goal

pub returns : goal.returns
returns c = rows_in_range
