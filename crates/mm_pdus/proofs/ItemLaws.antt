-- Lists of groups that grow.
use Rattle.std.proofs.Common.{◌≡◌, ℕ, ◌+◌, ◌-◌, ◌<◌, ◌≤◌, Bool, true, false, cond, List, [], ◌∷◌, ◌++◌, length, ap, arith}
use Rattle.std.proofs.lemmas.List.{length_push}

-- one more is within the limit, where there was room
pub still_fits : {T : Type 0} (most : ℕ) (b : Bool) (seen old new : List T) (item : T) → seen ≡ old → new ≡ cond b (old ++ item ∷ []) old → length seen < most → length new ≤ most
still_fits most true seen old new item same e room = omega (arith, ap length same, ap length e, length_push old item)
still_fits most false seen old new item same e room = omega (arith, ap length same, ap length e)

-- with one of them put there, the others still fit
pub room_left : {T : Type 0} (most count i : ℕ) (old new : List T) (item : T) → new ≡ old ++ item ∷ [] → i < count → length old + (count - i) ≤ most → length new + (count - (i + 1)) ≤ most
room_left most count i old new item e turn room = omega (arith, ap length e, length_push old item)
