use Rattle.image_rows.proofs.RowLaws.{row_takes, row_again}
use Rattle.image_rows.proofs.row_laws.read_as_written.Goals as goal

pub returns-clause-again : goal.returns-clause-again
returns-clause-again c = row_again

pub returns-clause-only : goal.returns-clause-only
returns-clause-only c = λ row bytes rest are e. row_takes bytes (row, rest) are e
