use Rattle.std.proofs.Common.{◌≡◌, ℕ, List, ◌++◌, length}
use Rattle.std.specs.Fmt.{HasWritten, IsPlainFormatter}
use Rattle.identity.specs.BitsText.{hex_of}
use Rattle.identity.proofs.display.write_hex.Given as goal

abbrev pub invariant-loop-f : goal.invariant-loop-f
invariant-loop-f g l =
    IsPlainFormatter l.initial.f → (done : List ℕ) × HasWritten g.W.Write.write_str_gives l.initial.f done l.f
    × (done ++ hex_of l.reader ≡ hex_of l.initial.reader)

abbrev pub decreases-loop-f : goal.decreases-loop-f
decreases-loop-f g l = length l.reader
