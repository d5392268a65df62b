-- What is refused where several things are asked in turn.
use Rattle.std.proofs.Common.{◌≡◌, [], ◌∷◌, Option, Some, None}
use Rattle.registration.specs.declared.fault.RegFault.{RegFault}
use Rattle.registration.specs.Refusals.{first_of}

-- where nothing is refused, there is room
pub third_of_three : (first second third : Option RegFault) → first_of (first ∷ second ∷ third ∷ []) ≡ None → third ≡ None
third_of_three None None third e = e
third_of_three None (Some fault) third e = absurd cc
third_of_three (Some fault) second third e = absurd cc
