use Rattle.std.proofs.Common.{◌≡◌, ◌++◌, length}
use Rattle.sds_tl.proofs.pieces.put_left.Given as goal

abbrev pub invariant-loop-reader : goal.invariant-loop-reader
invariant-loop-reader g l = l.writer ++ l.reader ≡ l.initial.writer ++ l.initial.reader

abbrev pub decreases-loop-reader : goal.decreases-loop-reader
decreases-loop-reader g l = length l.reader
