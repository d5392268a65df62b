use Rattle.identity.proofs.SameBytes.{packed_once}
use Rattle.identity.proofs.laws.packed_bits.Goals as goal

pub returns : goal.returns
returns c = packed_once
