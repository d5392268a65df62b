use Rattle.std.proofs.Common.{◌≡◌, take}
use Rattle.settings.specs.Naming.{first_twice, placed, entries_of, texts}
use Rattle.settings.proofs.Names.{twice_after}
use Rattle.settings.proofs.naming.place_all.Given as goal

abbrev pub invariant-loop-name : goal.invariant-loop-name
invariant-loop-name g l = (entries_of l.places ≡ placed (take l.name-index (texts l.names))) × (first_twice (texts l.names) ≡ twice_after (texts l.names) l.name-index)
