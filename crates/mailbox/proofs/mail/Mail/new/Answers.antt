use Rattle.mailbox.proofs.Filing.{none_filed, filed_again}
use Rattle.mailbox.proofs.mail.Mail.new.Goals as goal

pub invariant_of-result : goal.invariant_of-result
invariant_of-result g c = filed_again _ _ _ (none_filed _ _ c.new.ensures c.new-2.ensures)
