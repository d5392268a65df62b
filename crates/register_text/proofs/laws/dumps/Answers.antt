use Rattle.register_text.proofs.Dumped.{listing_again, listing_refused, listing_same, listing_under}
use Rattle.register_text.proofs.laws.dumps.Goals as goal

pub returns-clause-again : goal.returns-clause-again
returns-clause-again c = listing_again

pub returns-clause-under : goal.returns-clause-under
returns-clause-under c = listing_under

pub returns-clause-refused : goal.returns-clause-refused
returns-clause-refused c = listing_refused

pub returns-clause-text : goal.returns-clause-text
returns-clause-text c = listing_same
