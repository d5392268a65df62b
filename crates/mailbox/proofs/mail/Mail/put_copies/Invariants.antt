use Rattle.std.proofs.Common.{◌≡◌, take}
use Rattle.mailbox.specs.GroupPost.{is_receiver, group_posted}
use Rattle.mailbox.proofs.Copies.{made}
use Rattle.mailbox.proofs.mail.Mail.put_copies.Given as goal

abbrev pub invariant-loop-member : goal.invariant-loop-member
invariant-loop-member g l = l.self ≡ group_posted l.initial.self (made l.original (is_receiver l.registry l.original.key.source) (take l.member-index l.members))
