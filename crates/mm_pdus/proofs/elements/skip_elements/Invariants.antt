use Rattle.std.proofs.Common.{◌≡◌, length}
use Rattle.mm_pdus.specs.Reading.{elements_at, ignore}
use Rattle.mm_pdus.proofs.elements.skip_elements.Given as goal

abbrev pub invariant-loop : goal.invariant-loop
invariant-loop l = elements_at ignore (length l.reader) tt l.reader ≡ elements_at ignore (length l.initial.reader) tt l.initial.reader

abbrev pub decreases-loop : goal.decreases-loop
decreases-loop l = length l.reader
