use Rattle.std.proofs.Common.{◌≡◌, ◌*◌, take}
use Rattle.identity.specs.Packed.{bits_of}
use Rattle.identity.specs.BitsText.{digit_bits}
use Rattle.identity.proofs.bits_text.bytes_of.Given as goal

-- the bits of the pairs so far
abbrev pub invariant-loop-i : goal.invariant-loop-i
invariant-loop-i g l = bits_of l.bytes.items ≡ digit_bits (take (2 * l.i) l.digits)
