use Rattle.command_bytes.proofs.Packed.{so_many}
use Rattle.command_bytes.proofs.bits.PackedBits.len.Goals as goal

pub returns : goal.returns
returns c = so_many c.self.inside.bytes.now c.self.inside.len c.args.self.now c.self.view_is c.self.invariant.1.room
