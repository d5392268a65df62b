use Rattle.std.proofs.Common.{◌≡◌, ◌*◌, take, true}
use Rattle.std.specs.Char.{is_ascii_hexdigit}
use Rattle.std.specs.List.{list_all}
use Rattle.identity.specs.Number.{number}
use Rattle.identity.specs.BitsText.{digit_bits}
use Rattle.identity.proofs.hex_digits.number_of.Given as goal

-- the bytes so far are digits, and this is their number
abbrev pub invariant-loop-i : goal.invariant-loop-i
invariant-loop-i l = (l.value ≡ number (digit_bits (take (2 * l.i) l.text))) × (list_all is_ascii_hexdigit (take (2 * l.i) l.text) ≡ true)
