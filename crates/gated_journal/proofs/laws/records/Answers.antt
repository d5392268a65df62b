use Rattle.gated_journal.proofs.Listed.{record_again, record_taken}
use Rattle.gated_journal.proofs.laws.records.Goals as goal

pub returns-clause-read_back : goal.returns-clause-read_back
returns-clause-read_back g c = record_again

pub returns-clause-in_range : goal.returns-clause-in_range
returns-clause-in_range g c form before commands bytes is read = (record_taken form before bytes commands is read).fit

pub returns-clause-spelt : goal.returns-clause-spelt
returns-clause-spelt g c form before commands bytes is read = (record_taken form before bytes commands is read).spelt
