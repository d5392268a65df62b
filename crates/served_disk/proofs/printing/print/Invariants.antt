use Rattle.std.proofs.Common.{take}
use Rattle.std.specs.Io.KnownBytes.{Appends}
use Rattle.served_disk.specs.Printing.{parts_text}
use Rattle.served_disk.proofs.printing.print.Given as goal

-- the parts so far
abbrev pub invariant-loop-part : goal.invariant-loop-part
invariant-loop-part g l = Appends (g.W.Write.contents l.initial.out) (g.W.Write.contents l.out) (parts_text (take l.part-index l.parts))
