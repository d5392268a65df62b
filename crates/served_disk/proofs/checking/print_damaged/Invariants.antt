use Rattle.std.proofs.Common.{take}
use Rattle.std.specs.List.{flat_map}
use Rattle.std.specs.Io.KnownBytes.{Appends}
use Rattle.served_disk.specs.Checking.{damage_line}
use Rattle.served_disk.proofs.checking.print_damaged.Given as goal

-- the lines of the damaged sectors so far
abbrev pub invariant-loop-damage : goal.invariant-loop-damage
invariant-loop-damage g l =
    Appends (g.W.Write.contents l.initial.out) (g.W.Write.contents l.out) (flat_map (damage_line l.side) (take l.damage-index l.damaged))
