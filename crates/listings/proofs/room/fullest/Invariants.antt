use Rattle.std.proofs.Common.{◌≡◌, ◌-◌}
use Rattle.prefix_tree.specs.Following.{one_by_one}
use Rattle.mailbox.specs.Order.{named, next_item}
use Rattle.listings.specs.Fullest.{fullest}
use Rattle.listings.proofs.Fullest.{best_kept}
use Rattle.listings.proofs.room.fullest.Given as goal

-- the fullest one so far and the items that are left make the fullest of all
abbrev pub invariant-loop : goal.invariant-loop
invariant-loop g l = best_kept l.mail.items l.kept (one_by_one (next_item l.mail) named (l.end - l.counter) l.after) ≡ fullest l.mail.items
