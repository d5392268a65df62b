use Rattle.centre_core.proofs.StateLaws.{new_state}
use Rattle.centre_core.proofs.tables.Tables.new.Goals as goal

pub invariant_of-result : goal.invariant_of-result
invariant_of-result g c = new_state c.args.limits _ _ _ _ c.in_ok-new.ensures c.new-2.ensures c.new-3.ensures c.in_ok-none_accepted.ensures
