use Rattle.std.proofs.Common.{◌≡◌, true, sym, subst}
use Rattle.base.proofs.Bools.{both_true}
use Rattle.schedule.specs.Next.{is_place}
use Rattle.schedule.proofs.world.World.submit.Goals as goal

pub submit-requires : goal.submit-requires
submit-requires g c =
    let ok = rw (← c.self.view_is) at c.requires in
    subst (λ n. is_place c.self.inside.seats n ≡ true) (sym c.number.ensures.value) (both_true _ _ ok).0
