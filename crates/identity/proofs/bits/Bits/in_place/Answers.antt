use Rattle.identity.proofs.Kept.{placed_clear, placed_same}
use Rattle.identity.proofs.bits.Bits.in_place.Goals as goal

pub returns-clause-clear : goal.returns-clause-clear
returns-clause-clear g c = let b = c.self.inside in placed_clear b.len b.short b.bytes.items c.args.self.now c.self.invariant c.self.view_is c.requires.few

pub returns-clause-bits : goal.returns-clause-bits
returns-clause-bits g c = let b = c.self.inside in placed_same b.len b.short b.bytes.items c.args.self.now c.self.invariant c.self.view_is c.requires.few
