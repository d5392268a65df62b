use Rattle.std.proofs.Common.{◌≡◌, take}
use Rattle.settings.specs.Naming.{texts}
use Rattle.served_disk.specs.Files.{inputs_in}
use Rattle.served_disk.proofs.pairs.inputs_of.Given as goal

-- the names so far
abbrev pub invariant-loop-index : goal.invariant-loop-index
invariant-loop-index l = texts l.inputs.items ≡ inputs_in (take l.index l.named)
