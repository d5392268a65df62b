use Rattle.std.specs.Prelude.{length}
use Rattle.mailbox.specs.Inside.Places.{places_of}
use Rattle.mailbox.proofs.node.+first_after.Given as goal

abbrev pub decreases-first_after : goal.decreases-first_after
decreases-first_after g l = length (places_of l.link.now)
