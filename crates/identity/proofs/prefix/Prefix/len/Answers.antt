use Rattle.std.proofs.Common.{sym}
use Rattle.identity.specs.Inside.NumberLaws.{length-num}
use Rattle.identity.proofs.prefix.Prefix.len.Goals as goal

pub returns-clause-value : goal.returns-clause-value
returns-clause-value c = rw (← c.self.view_is) (sym (length-num _ _))
