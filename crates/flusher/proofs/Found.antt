-- When the flusher was found gone.
use Rattle.std.proofs.Common.{◌≡◌, Bool, true, false, List, length, refl, ap, arith}
use Rattle.flusher.specs.Heard.{HaveAllCome}
use Rattle.flusher.specs.Stages.{Sent}

-- the one answer did not come
pub none_came : (was now : Bool) (old new : List Sent) → HaveAllCome 1 was now old new → new ≡ old → now ≡ true
none_came was true old new h same = refl
none_came was false old new h same =
    let one = h.all refl in
    let none = ap length same in
    absurd (omega (arith, one, none))
