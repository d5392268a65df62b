use Rattle.std.proofs.Common.{sym, ap, ◌∙◌, false, true, ℕ, ◌+◌}
use Rattle.mm_pdus.proofs.GroupSteps.{length_one}
use Rattle.mm_pdus.proofs.group_text.GroupUpGroupText.text_len.Goals as goal

pub returns-in-Attach-clause-value : goal.returns-in-Attach-clause-value
returns-in-Attach-clause-value c = rw c.in-Attach.is (ap (λ (n : ℕ). 4 + n) c.address_len.ensures.value ∙ sym (length_one 3 _ false _))

pub returns-in-Leave-clause-value : goal.returns-in-Leave-clause-value
returns-in-Leave-clause-value c = rw c.in-Leave.is (ap (λ (n : ℕ). 3 + n) c.address_len-in-Leave.ensures.value ∙ sym (length_one 2 _ true _))
