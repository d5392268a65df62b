use Rattle.identity.proofs.IdentityTexts.{reading_identity_again, reading_identity_only, reading_identity_form, reading_identity_faults}
use Rattle.identity.proofs.laws.identity_texts.Goals as goal

pub returns-clause-again : goal.returns-clause-again
returns-clause-again c = reading_identity_again

pub returns-clause-only : goal.returns-clause-only
returns-clause-only c = reading_identity_only

pub returns-clause-form : goal.returns-clause-form
returns-clause-form c = reading_identity_form

pub returns-clause-faults : goal.returns-clause-faults
returns-clause-faults c = reading_identity_faults
