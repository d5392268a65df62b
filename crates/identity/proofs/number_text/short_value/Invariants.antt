use Rattle.std.proofs.Common.{◌≡◌, take}
use Rattle.identity.specs.NumberText.{value}
use Rattle.identity.proofs.number_text.short_value.Given as goal

-- the value of the digits so far
abbrev pub invariant-loop-digit : goal.invariant-loop-digit
invariant-loop-digit l = l.value ≡ value (take l.digit-index l.digits)
