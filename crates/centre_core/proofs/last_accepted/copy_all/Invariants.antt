use Rattle.std.proofs.Common.{◌≡◌, take}
use Rattle.centre_core.proofs.last_accepted.copy_all.Given as goal

abbrev pub invariant-loop-entry : goal.invariant-loop-entry
invariant-loop-entry g l = l.copy.items ≡ take l.entry-index l.served
