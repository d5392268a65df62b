use Rattle.image_rows.proofs.Settled.{row_is_spelt, spelt_is_read, written_is_read}
use Rattle.image_rows.proofs.row_laws.row_read_back.Goals as goal

pub returns-clause-written : goal.returns-clause-written
returns-clause-written c = written_is_read

pub returns-clause-spelt : goal.returns-clause-spelt
returns-clause-spelt c = spelt_is_read

pub returns-clause-only : goal.returns-clause-only
returns-clause-only c = row_is_spelt
