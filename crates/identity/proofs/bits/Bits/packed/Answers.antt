use Rattle.identity.proofs.Kept.{long_same}
use Rattle.identity.proofs.bits.Bits.packed.Goals as goal

pub returns : goal.returns
returns g c = long_same c.args.len _ c.args.bytes.items c.requires.long
