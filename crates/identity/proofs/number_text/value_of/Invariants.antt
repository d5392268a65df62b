use Rattle.std.proofs.Common.{◌≡◌, ◌≤◌, take, length}
use Rattle.identity.specs.NumberText.{value}
use Rattle.identity.proofs.number_text.value_of.Given as goal

-- the value of the digits so far
abbrev pub invariant-loop-at : goal.invariant-loop-at
invariant-loop-at l = (l.value ≡ value (take l.at l.digits)) × (l.at ≤ length l.digits)
