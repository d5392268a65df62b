use Rattle.mm_pdus.proofs.ValueLaws as values
use Rattle.mm_pdus.proofs.laws.accepted_as_asked.Goals as goal

pub returns : goal.returns
returns c = values.accepted_as_asked
