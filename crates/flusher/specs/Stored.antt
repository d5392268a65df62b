-- What the disk holds of what is durable.
use Rattle.std.specs.Prelude.{◌≡◌, ◌⊎◌, ℕ, true, false, List, ◌++◌, take}
use Rattle.std.specs.declared.alloc.Global.{Global}
use mathlib.Core.List.{IsPrefix}
use Rattle.identity.specs.Numbers.{Byte}
use Rattle.sector_disk.specs.Disk.{View}
use Rattle.centre_core.specs.Asked.{Asked}
use Rattle.centre_core.specs.State.{State}
use Rattle.centre_core.specs.History.{after}
use Rattle.centre_core.specs.Batches.{taken}
use Rattle.checkpoint.specs.OnSide.{InEach}
use Rattle.recovery.specs.Lives.{IsStoredIn}
use Rattle.recovery.specs.Outcomes.{OpensToEither}
use Rattle.recovery.specs.OpensTo.{OpensTo}
use Rattle.flusher.specs.Shared.{commands_among}
use Rattle.flusher.specs.Order.{AreInOrder}
use Rattle.flusher.specs.View.{FlusherView}

-- the whole has the items of the part one after another
abbrev pub IsPart : {X : Type 0} → List X → List X → Type 0
IsPart {X} part whole = (before : List X) × (after : List X) × (whole ≡ before ++ (part ++ after))

-- Further commands that a commit was to make durable when the disk failed. They are the accepted ones of a prefix, `reached` commands long, of
-- a batch that was taken.
pub record AreUnderWay {D : Type 0} (base : State) (f : FlusherView D) (more : List (Asked Global)) : Type 0 where
  pub batch : List (Asked Global)
  pub reached : ℕ
  pub part : IsPart batch (commands_among f.taker.taken)
  pub these : more ≡ taken (after base f.durable) (take reached batch)
  -- the durable commands and then these are some of those that were taken, in the order in which they were taken
  pub order : AreInOrder (f.durable ++ more) f.taker.taken

-- The disk is honest, and each image that a stop may leave opens to what is durable. If the disk has failed, each opens to what is durable, or
-- to this and further commands that were under way.
pub record IsStoredFor {D : Type 0} (view : D → View) (base : State) (f : FlusherView D) : Type 0 where
  pub honest : (view f.store.disk).honest
  pub sound : f.store.broken ≡ false → IsStoredIn Global view f.store
  pub failed : f.store.broken ≡ true → (more : List (Asked Global)) × AreUnderWay base f more
      × InEach (view f.store.disk) (OpensToEither Global (after base f.durable) (after base (f.durable ++ more)))

-- The image opens to a list of commands. What is durable at f is a prefix of this list, and the list is a prefix of what is durable at g. If
-- the disk has failed by g, the image may also open to what is durable at g and further commands that were under way.
abbrev pub OpensBetween : {D : Type 0} → State → FlusherView D → FlusherView D → List (List Byte) → Type 0
OpensBetween base f g image =
    ((list : List (Asked Global)) × IsPrefix f.durable list × IsPrefix list g.durable × OpensTo Global (after base list) image)
    ⊎ ((more : List (Asked Global)) × (g.store.broken ≡ true) × AreUnderWay base g more × OpensTo Global (after base (g.durable ++ more)) image)
