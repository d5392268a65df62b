use Rattle.register_text.proofs.Texts.{lines_made, lines_again, lines_under, lines_only}
use Rattle.register_text.proofs.laws.register_lines.Goals as goal

pub returns-clause-made : goal.returns-clause-made
returns-clause-made c = lines_made

pub returns-clause-again : goal.returns-clause-again
returns-clause-again c = lines_again

pub returns-clause-under : goal.returns-clause-under
returns-clause-under c = lines_under

pub returns-clause-only : goal.returns-clause-only
returns-clause-only c = lines_only
