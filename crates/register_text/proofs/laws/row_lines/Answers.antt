use Rattle.register_text.proofs.Again.{line_again}
use Rattle.register_text.proofs.Only.{line_only}
use Rattle.register_text.proofs.laws.row_lines.Goals as goal

pub returns-clause-again : goal.returns-clause-again
returns-clause-again c = line_again

pub returns-clause-only : goal.returns-clause-only
returns-clause-only c = line_only
