use Rattle.image_rows.proofs.ByParts.{row_is_by_tables}
use Rattle.image_rows.proofs.laws.rows_by_tables.Goals as goal

pub returns : goal.returns
returns c = row_is_by_tables
