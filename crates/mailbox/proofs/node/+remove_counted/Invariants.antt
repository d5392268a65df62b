use Rattle.std.specs.Prelude.{length}
use Rattle.mailbox.specs.Inside.Places.{places_of}
use Rattle.mailbox.proofs.node.+remove_counted.Given as goal

abbrev pub decreases-remove_counted : goal.decreases-remove_counted
decreases-remove_counted g l = length (places_of l.link.now)
