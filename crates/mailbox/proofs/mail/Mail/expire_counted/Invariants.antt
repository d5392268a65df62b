use Rattle.std.specs.Prelude.{◌≡◌, ℕ, ◌+◌, ◌-◌, ◌*◌, ◌≤◌, length}
use Rattle.mailbox.specs.Mail.{expired}
use Rattle.mailbox.specs.Cost.{IsAboveAll}
use Rattle.mailbox.proofs.mail.Mail.expire_counted.Given as goal

abbrev pub invariant-loop-place : goal.invariant-loop-place
invariant-loop-place g l =
    (expired l.self l.moment ≡ expired l.initial.self l.moment)
    × (length l.self.items ≤ length l.initial.self.items)
    × ((height : ℕ) → IsAboveAll height l.initial.self → l.steps ≤ l.initial.steps + 3 * height * (length l.initial.self.items - length l.self.items))

abbrev pub decreases-loop-place : goal.decreases-loop-place
decreases-loop-place g l = length l.self.items
