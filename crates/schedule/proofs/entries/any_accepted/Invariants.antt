use Rattle.std.proofs.Common.{◌≡◌, drop}
use Rattle.centre_core.specs.Batches.{accepted_of}
use Rattle.schedule.proofs.entries.any_accepted.Given as goal

abbrev pub invariant-loop-entry : goal.invariant-loop-entry
invariant-loop-entry g l = accepted_of l.entries ≡ accepted_of (drop l.entry-index l.entries)
