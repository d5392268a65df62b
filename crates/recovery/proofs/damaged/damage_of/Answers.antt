use Rattle.std.proofs.Common.{refl}
use Rattle.recovery.proofs.damaged.damage_of.Goals as goal

pub damage_from-requires-clause-first : goal.damage_from-requires-clause-first
damage_from-requires-clause-first g c = c.requires.on_disk c.in-Damaged.sector (rw c.in-Damaged.is refl)
