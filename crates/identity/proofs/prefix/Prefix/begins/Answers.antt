use Rattle.identity.proofs.Prefixes.{begins_bits}
use Rattle.identity.proofs.prefix.Prefix.begins.Goals as goal

pub returns : goal.returns
returns c = rw (← c.self.view_is) (begins_bits c.self.inside.len c.self.inside.bits c.args.identity c.self.invariant.0 c.self.invariant.1)
