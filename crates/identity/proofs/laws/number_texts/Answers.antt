use Rattle.identity.proofs.Texts.{reading_number_again, reading_number_only, reading_number_form, reading_number_faults}
use Rattle.identity.proofs.laws.number_texts.Goals as goal

pub returns-clause-again : goal.returns-clause-again
returns-clause-again c = reading_number_again

pub returns-clause-only : goal.returns-clause-only
returns-clause-only c = reading_number_only

pub returns-clause-form : goal.returns-clause-form
returns-clause-form c = reading_number_form

pub returns-clause-faults : goal.returns-clause-faults
returns-clause-faults c = reading_number_faults
