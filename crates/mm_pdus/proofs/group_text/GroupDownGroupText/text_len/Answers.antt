use Rattle.std.proofs.Common.{sym, ap, ◌∙◌, false, true, ℕ, ◌+◌}
use Rattle.mm_pdus.proofs.GroupSteps.{length_one, length_two}
use Rattle.mm_pdus.proofs.group_text.GroupDownGroupText.text_len.Goals as goal

pub returns-in-Attach-clause-value : goal.returns-in-Attach-clause-value
returns-in-Attach-clause-value c = rw c.in-Attach.is (ap (λ (n : ℕ). 6 + n) c.address_len.ensures.value ∙ sym (length_two 2 _ 3 _ false _))

pub returns-in-Detach-clause-value : goal.returns-in-Detach-clause-value
returns-in-Detach-clause-value c = rw c.in-Detach.is (ap (λ (n : ℕ). 3 + n) c.address_len-in-Detach.ensures.value ∙ sym (length_one 2 _ true _))
