use Rattle.std.proofs.Common.{arith}
use Rattle.byteorder.specs.Numbers.{big_from-lt}
use Rattle.command_bytes.proofs.fields.number.Goals as goal

pub returns-clause-small : goal.returns-clause-small
returns-clause-small c = rw c.read_uint.ensures (big_from-lt 0 c.args.width c.args.bytes.now (λ k. omega (arith, c.type_inv.bytes k)))
