use Rattle.std.proofs.Common.{sym}
use Rattle.mm_pdus.proofs.GroupSteps.{length-address_short, length-address_full}
use Rattle.mm_pdus.proofs.group_text.address_len.Goals as goal

pub returns-in-Short-clause-value : goal.returns-in-Short-clause-value
returns-in-Short-clause-value c = rw c.in-Short.is (sym (length-address_short _))

pub returns-in-Full-clause-value : goal.returns-in-Full-clause-value
returns-in-Full-clause-value c = rw c.in-Full.is (sym (length-address_full c.in-Full.field-0))
