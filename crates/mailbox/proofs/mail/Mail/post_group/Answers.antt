use Rattle.std.proofs.Common.{◌≡◌, None, sym, ◌∙◌}
use Rattle.mailbox.specs.GroupPost.{copies, group_refusal}
use Rattle.mailbox.proofs.CopiesSound.{free_keys}
use Rattle.mailbox.proofs.mail.Mail.post_group.Goals as goal

pub put_copies-requires-clause-free : goal.put_copies-requires-clause-free
put_copies-requires-clause-free g c =
    let none : group_refusal c.args.registry.now c.args.self.now c.args.envelope.now
    (copies c.args.registry.now c.args.envelope.now c.args.members.now c.args.stamp c.args.pdu) ≡ None =
    sym (c.group_refusal.ensures c.args.stamp c.args.pdu) ∙ c.in_default.is in
    free_keys c.args.registry.now c.args.self.now c.args.envelope.now c.args.members.now c.args.stamp c.args.pdu _ c.original-message.ensures none
