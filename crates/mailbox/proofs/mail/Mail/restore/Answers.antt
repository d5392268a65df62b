use Rattle.std.proofs.Common.{◌≡◌, ℕ, Bool, List, Option, sym, ap, ◌∙◌}
use Rattle.mailbox.specs.declared.fault.MailFault.{MailFault}
use Rattle.mailbox.specs.declared.key.Key.{Key}
use Rattle.mailbox.specs.Values.{Mailed, Item}
use Rattle.mailbox.specs.Refusals.{restore_refusal}
use Rattle.mailbox.proofs.Sound.{not_taken}
use Rattle.mailbox.proofs.mail.Mail.restore.Goals as goal

judged : (m : Mailed) (w : Item) (k : Key) (r : Option MailFault) →
    ((number deadline : ℕ) (pdu : List Bool) (group : Option ℕ) →
    r ≡ restore_refusal m (record { key = k; number = number; deadline = deadline; pdu = pdu; group = group })) → k ≡ w.key → r ≡ restore_refusal m w
judged m w k r is key = is w.number w.deadline w.pdu w.group ∙ ap (λ at. restore_refusal m (record { key = at; number = w.number; deadline = w.deadline; pdu = w.pdu; group = w.group })) key

pub put_new-requires-clause-free : goal.put_new-requires-clause-free
put_new-requires-clause-free g c = not_taken c.args.self.now c.args.item (sym (judged c.args.self.now c.args.item _ _ c.restore_refusal.ensures c.key.ensures) ∙ c.in_default.is)

pub returns-clause-ok : goal.returns-clause-ok
returns-clause-ok g c = (sym (judged c.args.self.now c.args.item _ _ c.restore_refusal.ensures c.key.ensures) ∙ c.in_default.is, c.in-Ok.ensures.ok)
