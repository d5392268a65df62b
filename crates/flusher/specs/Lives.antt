-- Rounds in the life of a disk.
use Rattle.std.specs.Prelude.{◌≡◌, true, false, List, [], ◌∷◌, ◌++◌}
use Rattle.std.specs.declared.alloc.Global.{Global}
use Rattle.identity.specs.Numbers.{Byte}
use Rattle.sector_disk.specs.Disk.{View}
use Rattle.centre_core.specs.Asked.{Asked}
use Rattle.centre_core.specs.State.{State}
use Rattle.centre_core.specs.History.{after}
use Rattle.recovery.specs.Lives.{Answered, Closed, ComesBack, Event, IsCall, IsLife, Open, Unanswered, stopped}
use Rattle.flusher.specs.Order.{AreInOrder}
use Rattle.flusher.specs.Rounds.{IsRound}
use Rattle.flusher.specs.Stored.{AreUnderWay}
use Rattle.flusher.specs.View.{FlusherView}

module _ {D : Type 0} (view : D → View) (base : State) where
  -- A round is a call of the store, with this event: `Answered` with the commands that the round made durable; or, if the disk failed in it,
  -- `Unanswered` with the commands that were under way.
  pub data IsRoundCall (f g : FlusherView D) : Event Global → Type 0 where
    makes_durable : (more : List (Asked Global)) → g.durable ≡ f.durable ++ more
        → IsCall Global view (Open f.store) (Answered more) (Open g.store) → IsRoundCall f g (Answered more)
    fails_under_way : (more : List (Asked Global)) → g.store.broken ≡ true → g.durable ≡ f.durable → AreUnderWay base g more
        → IsCall Global view (Open f.store) (Unanswered more) (Open g.store) → IsRoundCall f g (Unanswered more)

  -- a round is a call of the store, whatever happened in it
  abbrev pub IsSomeCall : FlusherView D → FlusherView D → Type 0
  IsSomeCall f g = (event : Event Global) × IsRoundCall f g event

  -- rounds, one after another, and what happened in each, the last one first
  pub data AreCalls (f : FlusherView D) : List (Event Global) → FlusherView D → Type 0 where
    no_call : AreCalls f [] f
    one_call : (events : List (Event Global)) (event : Event Global) (g h : FlusherView D)
        → AreCalls f events g → IsRound view base g h → IsRoundCall g h event → AreCalls f (event ∷ events) h

-- The first list has the events of calls, the last one first. The second has what of them had happened when a stop came: in one of these
-- calls, or before any.
pub data AreCutShort : List (Event Global) → List (Event Global) → Type 0 where
  before_any : AreCutShort [] (Unanswered [] ∷ [])
  in_last : (event : Event Global) (events : List (Event Global)) → AreCutShort (event ∷ events) (stopped event ∷ events)
  in_earlier : (event : Event Global) (events cut : List (Event Global)) → AreCutShort events cut → AreCutShort (event ∷ events) cut

-- A life of the disk began with the register `from` and came to the first flusher's store by the events `before`. It goes on by rounds to the
-- last flusher's store, or by a stop.
-- `mid` is the flusher after some of the rounds, or after none. After a stop at any moment since `mid` the disk comes back with all that the
-- rounds up to `mid` did, so with all that was answered by then. Of the later rounds it has all that those before the stop did, and all or
-- none of the round in which the stop came.
pub record HasLived {D : Type 0} (view : D → View) (base from : State) (before : List (Event Global)) (first last : FlusherView D) : Type 0 where
  pub events : List (Event Global)
  pub calls : AreCalls view base first events last
  pub life : IsLife Global view from (events ++ before) (Open last.store)
  pub stops : (mid : FlusherView D) (done later : List (Event Global)) → AreCalls view base first done mid → AreCalls view base mid later last
      → (image : List (List Byte)) (disk : D) → (view last.store.disk).since (view mid.store.disk).moment image → ComesBack Global view image disk
      → (cut : List (Event Global)) × AreCutShort later cut × IsLife Global view from (cut ++ (done ++ before)) (Closed disk)

module _ {D : Type 0} (view : D → View) (base : State) where
  -- A life of the disk began with the register `from` and came to this flusher's store by these events. The register of a sound store is what
  -- the durable commands make, and these were taken in this order.
  pub record IsInLife (from : State) (before : List (Event Global)) (f : FlusherView D) : Type 0 where
    pub life : IsLife Global view from before (Open f.store)
    pub made : f.store.broken ≡ false → f.store.register ≡ after base f.durable
    pub order : AreInOrder f.durable f.taker.taken

  -- each life of the disk that came to the first flusher, between two rounds, goes on to the last one
  abbrev pub LivesOn : FlusherView D → FlusherView D → Type 0
  LivesOn first last = (from : State) (before : List (Event Global)) → IsInLife from before first → HasLived view base from before first last
