use Rattle.std.proofs.Common.{◌≡◌, length}
use Rattle.mailbox.specs.GroupPost.{shortened}
use Rattle.mailbox.proofs.mail.Mail.truncate.Given as goal

abbrev pub invariant-loop-self : goal.invariant-loop-self
invariant-loop-self g l = shortened l.self l.len ≡ shortened l.initial.self l.len

abbrev pub decreases-loop-self : goal.decreases-loop-self
decreases-loop-self g l = length l.self.items
