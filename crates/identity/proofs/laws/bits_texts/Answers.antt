use Rattle.identity.proofs.BitsTexts.{bits_printed, reading_bits_again, reading_bits_only, reading_bits_form, reading_bits_faults}
use Rattle.identity.proofs.laws.bits_texts.Goals as goal

pub returns-clause-printed : goal.returns-clause-printed
returns-clause-printed c = bits_printed

pub returns-clause-again : goal.returns-clause-again
returns-clause-again c = reading_bits_again

pub returns-clause-only : goal.returns-clause-only
returns-clause-only c = reading_bits_only

pub returns-clause-form : goal.returns-clause-form
returns-clause-form c = reading_bits_form

pub returns-clause-faults : goal.returns-clause-faults
returns-clause-faults c = reading_bits_faults
