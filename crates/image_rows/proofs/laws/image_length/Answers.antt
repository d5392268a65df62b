use Rattle.image_rows.proofs.Counts.{rows_counted, rows_fit}
use Rattle.image_rows.proofs.laws.image_length.Goals as goal

pub returns-clause-stated : goal.returns-clause-stated
returns-clause-stated c = rows_counted

pub returns-clause-fits : goal.returns-clause-fits
returns-clause-fits c = rows_fit
