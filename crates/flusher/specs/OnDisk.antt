-- What rounds leave of the store and its disk.
use Rattle.std.specs.Prelude.{◌≡◌, ◌≤◌, true, false}
use Rattle.std.specs.declared.alloc.Global.{Global}
use Rattle.sector_disk.specs.Disk.{HasFailed, View}
use Rattle.sector_disk.specs.Run.{LeavesOnly}
use Rattle.centre_core.specs.State.{State}
use Rattle.recovery.specs.Lives.{StoreView}
use Rattle.recovery.specs.Outcomes.{OpensToEither}
use Rattle.flusher.specs.Lasting.{AreLasting}
use Rattle.flusher.specs.Lives.{IsSomeCall}
use Rattle.flusher.specs.Since.{AreAllDurable}
use Rattle.flusher.specs.Stored.{IsStoredFor, OpensBetween}
use Rattle.flusher.specs.View.{FlusherView}

module _ {D : Type 0} (view : D → View) where
  -- no failure of the disk is forgotten, and nothing else breaks a sound store
  pub record BreaksByDisk (old new : StoreView Global D) : Type 0 where
    pub later : (view old.disk).failures ≤ (view new.disk).failures
    pub failed : old.broken ≡ false → new.broken ≡ true → HasFailed (view old.disk) (view new.disk)

  -- A round is a call in the life of the disk. After it each image of the disk opens to what is durable, or once the disk has failed perhaps
  -- to more. If the store was sound before, a stop at any moment of the round leaves the register from before the round or after it.
  pub record IsRoundStored (base : State) (f g : FlusherView D) : Type 0 where
    pub call : IsSomeCall view base f g
    pub stored : IsStoredFor view base g
    pub any_moment : f.store.broken ≡ false
        → LeavesOnly (view f.store.disk) (view g.store.disk) (OpensToEither Global f.store.register g.store.register)
    -- each answer that was sent in the round was durable before it was sent, if this holds of all earlier answers
    pub durable : AreAllDurable view base g f.senders → AreAllDurable view base g g.senders

  -- After rounds each image of the disk opens to what is durable, or once the disk has failed perhaps to more. If the store was sound before,
  -- a stop at any moment of the rounds leaves a list between what was durable before and after them, or once the disk has failed perhaps more
  -- (`OpensBetween`). After a stop once one of the rounds has ended the disk opens to no less than was durable at the end of that round.
  pub record AreRoundsStored (base : State) (f g : FlusherView D) : Type 0 where
    pub lasting : AreLasting view base f g
    pub stored : IsStoredFor view base g
    pub any_moment : f.store.broken ≡ false → LeavesOnly (view f.store.disk) (view g.store.disk) (OpensBetween base f g)
    -- each answer that was sent in these rounds was durable before it was sent, if this holds of all earlier answers
    pub durable : AreAllDurable view base g f.senders → AreAllDurable view base g g.senders
