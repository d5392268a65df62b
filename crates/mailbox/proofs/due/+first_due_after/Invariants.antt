use Rattle.std.specs.Prelude.{length}
use Rattle.mailbox.specs.Inside.Places.{places_of}
use Rattle.mailbox.proofs.due.+first_due_after.Given as goal

abbrev pub decreases-first_due_after : goal.decreases-first_due_after
decreases-first_due_after g l = length (places_of l.link.now)
