use Rattle.std.proofs.Common.{sym, subst}
use Rattle.centre_core.specs.StateRanges.{StateInRange}
use Rattle.centre_core.proofs.RangeLaws.{empty_is_in_range}
use Rattle.centre_core.proofs.register.Register.new.Goals as goal

pub invariant_of-result : goal.invariant_of-result
invariant_of-result g c = subst StateInRange (sym c.in_ok-tables.ensures) (empty_is_in_range c.args.limits)
