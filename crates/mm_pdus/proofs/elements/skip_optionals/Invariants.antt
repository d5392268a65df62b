use Rattle.std.proofs.Common.{◌≡◌, drop}
use Rattle.mm_pdus.specs.Reading.{optionals_at}
use Rattle.mm_pdus.proofs.elements.skip_optionals.Given as goal

abbrev pub invariant-loop-width : goal.invariant-loop-width
invariant-loop-width l = optionals_at l.widths l.initial.reader ≡ optionals_at (drop l.width-index l.widths) l.reader
