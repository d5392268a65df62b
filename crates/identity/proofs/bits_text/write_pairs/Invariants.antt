use Rattle.std.proofs.Common.{◌≡◌, ◌*◌, take, length}
use Rattle.identity.proofs.HexPairs.{hexes}
use Rattle.identity.proofs.bits_text.write_pairs.Given as goal

abbrev pub invariant-loop-i : goal.invariant-loop-i
invariant-loop-i l = (length l.digits ≡ length l.initial.digits) × (take (2 * l.i) l.digits ≡ take (2 * l.i) (hexes l.bytes))
