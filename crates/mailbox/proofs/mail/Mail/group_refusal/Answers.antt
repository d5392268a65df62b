use Rattle.std.proofs.Common.{◌≡◌, Option, None, rules, ap, sym, ◌∙◌}
use Rattle.std.specs.Option.{option_or}
use Rattle.registration.specs.Registered.{rule_of}
use Rattle.mailbox.specs.declared.fault.MailFault.{MailFault}
use Rattle.mailbox.specs.Refusals.{unknown_refusal, absent_refusal}
use Rattle.mailbox.specs.GroupPost.{copies, copies_refusal}
use Rattle.mailbox.proofs.CopiesRefused.{judged_by_members}
use Rattle.mailbox.proofs.mail.Mail.group_refusal.Goals as goal

pub returns : goal.returns
returns g c = λ stamp pdu.
    let s = c.args.registry.now in
    let e = c.args.envelope.now in
    let why : Option MailFault = copies_refusal c.args.self.now (copies s e c.args.members.now stamp pdu) in
    let known : unknown_refusal (rule_of s e.group) ≡ None = search rules in
    let present : absent_refusal s e.source ≡ None = search rules in
    c.copies_refusal.ensures ∙ judged_by_members s e stamp pdu c.args.self.now c.args.members.now c.requires
    ∙ sym (ap (λ first. option_or first (option_or (absent_refusal s e.source) why)) known ∙ ap (λ first. option_or first why) present)
