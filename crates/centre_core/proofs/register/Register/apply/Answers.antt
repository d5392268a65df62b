use Rattle.centre_core.proofs.RangeLaws.{applied_ranges}
use Rattle.centre_core.proofs.register.Register.apply.Goals as goal

pub invariant_of-self : goal.invariant_of-self
invariant_of-self g c =
    applied_ranges _ c.self.inside.tables _ c.args.command.now c.apply.result c.facts_of_ranges.ensures c.apply.ensures.ok c.apply.ensures.err c.self.invariant
