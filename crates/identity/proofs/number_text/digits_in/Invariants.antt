use Rattle.std.proofs.Common.{◌≡◌, take, true}
use Rattle.std.specs.Char.{is_ascii_digit}
use Rattle.std.specs.List.{list_all}
use Rattle.identity.specs.NumberText.{value}
use Rattle.identity.proofs.number_text.digits_in.Given as goal

-- the bytes so far are digits, and this is their value
abbrev pub invariant-loop-byte : goal.invariant-loop-byte
invariant-loop-byte l = (l.value ≡ value (take l.byte-index l.text)) × (list_all is_ascii_digit (take l.byte-index l.text) ≡ true)
