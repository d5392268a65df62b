use Rattle.identity.specs.Inside.NumberLaws.{length-num}
use Rattle.identity.proofs.prefix.Prefix.number.Goals as goal

pub returns-clause-fits : goal.returns-clause-fits
returns-clause-fits c = rw (← c.self.view_is, length-num) c.self.invariant.1

pub returns-clause-value : goal.returns-clause-value
returns-clause-value c = rw (← c.self.view_is, length-num)
