use Rattle.std.proofs.Common.{◌≡◌, take, true}
use Rattle.std.specs.Char.{is_ascii_digit}
use Rattle.std.specs.List.{list_all}
use Rattle.identity.specs.NumberText.{value}
use Rattle.identity.proofs.number_text.number_before_dash.Given as goal

-- the bytes so far are digits, and this is their value
abbrev pub invariant-loop-at : goal.invariant-loop-at
invariant-loop-at l = (l.number ≡ value (take l.at l.text)) × (list_all is_ascii_digit (take l.at l.text) ≡ true)
