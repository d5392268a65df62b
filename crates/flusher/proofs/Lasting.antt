-- What stays on the disk once it was answered, over a run of rounds.
use Rattle.std.proofs.Common.{◌≡◌, false, refl}
use Rattle.sector_disk.specs.Disk.{IsSound, View}
use Rattle.sector_disk.specs.Run.{LeavesOnly}
use Rattle.centre_core.specs.State.{State}
use Rattle.recovery.specs.Outcomes.{OpensToEither}
use Rattle.std.specs.declared.alloc.Global.{Global}
use Rattle.flusher.specs.Batches.{KeepsImages}
use Rattle.flusher.specs.Rounds.{IsRound}
use Rattle.flusher.specs.Runs.{AreRounds, next, none}
use Rattle.flusher.specs.Lasting.{AreLasting, no_more, onward}
use Rattle.flusher.specs.Served.{IsSettled}
use Rattle.flusher.specs.Stored.{IsStoredFor}
use Rattle.flusher.specs.View.{FlusherView}
use Rattle.flusher.proofs.Between.{now_between, one_more_between}

module _ {D : Type 0} (view : D → View) (base : State) where
  pub rounds_of : (f g : FlusherView D) → AreLasting view base f g → AreRounds view base f g
  rounds_of f g (no_more x) = none x
  rounds_of f g (onward x m y first settled keeps since rest) = next x m y first (rounds_of m y rest)

  -- what a stop in a round leaves
  keeps : (m g : FlusherView D) → (m.store.broken ≡ false → LeavesOnly (view m.store.disk) (view g.store.disk) (OpensToEither Global m.store.register g.store.register))
      → IsStoredFor view base g → m.store.broken ≡ false → KeepsImages view m.store g.store
  keeps m g second kept up = record { honest = kept.honest; any_moment = second up; kept = kept.sound }

  -- one more round
  pub one_more_lasting : (f m g : FlusherView D) → IsRound view base m g → AreLasting view base f m → IsSettled base m → IsSettled base g
      → (m.store.broken ≡ false → LeavesOnly (view m.store.disk) (view g.store.disk) (OpensToEither Global m.store.register g.store.register))
      → ((view g.store.disk).honest → IsSound (view g.store.disk)) → IsStoredFor view base g → AreLasting view base f g
  one_more_lasting f m g r (no_more x) was now second sound kept = onward x g g r now (keeps x g second kept) (now_between view base g sound now.made kept) (no_more g)
  one_more_lasting f m g r (onward x y z first settled within since rest) was now second sound kept =
      onward x y g first settled within (one_more_between view base y z g r (rounds_of y z rest) z.store.broken refl was.made was.order now.made second since)
      (one_more_lasting y z g r rest was now second sound kept)
