use Rattle.register_text.proofs.Bytes.{bytes_again, bytes_made, bytes_under, bytes_only}
use Rattle.register_text.proofs.CutTexts.{bytes_refused}
use Rattle.register_text.proofs.laws.register_bytes.Goals as goal

pub returns-clause-made : goal.returns-clause-made
returns-clause-made c = bytes_made

pub returns-clause-refused : goal.returns-clause-refused
returns-clause-refused c = bytes_refused

pub returns-clause-again : goal.returns-clause-again
returns-clause-again c = bytes_again

pub returns-clause-under : goal.returns-clause-under
returns-clause-under c = bytes_under

pub returns-clause-only : goal.returns-clause-only
returns-clause-only c = bytes_only
