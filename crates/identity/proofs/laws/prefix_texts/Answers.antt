use Rattle.identity.proofs.IdentityTexts.{reading_prefix_again, reading_prefix_only, reading_prefix_form, reading_prefix_faults}
use Rattle.identity.proofs.laws.prefix_texts.Goals as goal

pub returns-clause-again : goal.returns-clause-again
returns-clause-again c = reading_prefix_again

pub returns-clause-only : goal.returns-clause-only
returns-clause-only c = reading_prefix_only

pub returns-clause-form : goal.returns-clause-form
returns-clause-form c = reading_prefix_form

pub returns-clause-faults : goal.returns-clause-faults
returns-clause-faults c = reading_prefix_faults
