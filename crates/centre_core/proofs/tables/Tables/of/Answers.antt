use Rattle.std.proofs.Common.{subst, sym}
use Rattle.centre_core.specs.State.{IsState}
use Rattle.centre_core.proofs.tables.Tables.of.Goals as goal

pub invariant_of-result : goal.invariant_of-result
invariant_of-result g c = subst IsState (sym c.parts.view_is) c.requires
