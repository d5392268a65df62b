use Rattle.std.proofs.Common.{◌≡◌, true, false, cond, Some, None, ap, sym, ◌∙◌}
use Rattle.std.specs.List.{list_any}
use Rattle.mailbox.specs.declared.fault.MailFault.TheVariants.{NoSuchMessage}
use Rattle.mailbox.specs.Item.{is_at}
use Rattle.mailbox.specs.Mail.{holds}
use Rattle.mailbox.proofs.Effects.{holds_waiting}
use Rattle.mailbox.proofs.mail.Mail.judge_at.Goals as goal

pub returns-then-not-any_at-clause-refusal : goal.returns-then-not-any_at-clause-refusal
returns-then-not-any_at-clause-refusal g c =
    let m = c.args.self.now in let k = c.args.key.now in
    let none : holds m k ≡ false = sym (c.any_at.ensures ∙ ap (list_any (is_at k)) c.items_of-items.ensures.items ∙ holds_waiting m k) ∙ c.if-not-any_at.true in
    ap (λ b. cond b None (Some NoSuchMessage)) (sym none)

pub returns-clause-refusal : goal.returns-clause-refusal
returns-clause-refusal g c =
    let m = c.args.self.now in let k = c.args.key.now in
    let one : holds m k ≡ true = sym (c.any_at.ensures ∙ ap (list_any (is_at k)) c.items_of-items.ensures.items ∙ holds_waiting m k) ∙ c.if-not-any_at.false in
    ap (λ b. cond b None (Some NoSuchMessage)) (sym one)
