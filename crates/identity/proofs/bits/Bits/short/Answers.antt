use Rattle.std.proofs.Common.{List, ℕ, take, ap}
use Rattle.identity.specs.Packed.{bits_of}
use Rattle.identity.proofs.Kept.{kept_short}
use Rattle.identity.proofs.bits.Bits.short.Goals as goal

pub returns : goal.returns
returns g c = ap (λ (l : List ℕ). take c.args.len (bits_of l)) (kept_short c.args.len c.args.bytes c.new.result.items c.requires.few)
