use Rattle.identity.proofs.Prefixes.{bits_value, bits_below, is_left_aligned}
use Rattle.identity.proofs.prefix.Prefix.bits.Goals as goal

pub returns-clause-bits : goal.returns-clause-bits
returns-clause-bits c = rw (← c.self.view_is) (bits_value c.self.inside.len c.self.inside.bits c.self.invariant.0 c.self.invariant.1)

pub returns-clause-below : goal.returns-clause-below
returns-clause-below c = bits_below c.self.inside.len c.self.inside.bits c.self.invariant.0 c.self.invariant.1

pub returns-clause-value : goal.returns-clause-value
returns-clause-value c = is_left_aligned c.args.self.now _ (returns-clause-bits c) (returns-clause-below c)
