use Rattle.image_rows.proofs.Fits.{row_short}
use Rattle.image_rows.proofs.row_laws.rows_fit.Goals as goal

pub returns : goal.returns
returns c = row_short
