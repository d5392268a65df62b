-- What stays on the disk once it was answered.
use Rattle.std.specs.Prelude.{◌≡◌, false}
use Rattle.sector_disk.specs.Disk.{View}
use Rattle.sector_disk.specs.Run.{LeavesOnly}
use Rattle.centre_core.specs.State.{State}
use Rattle.flusher.specs.Batches.{KeepsImages}
use Rattle.flusher.specs.Rounds.{IsRound}
use Rattle.flusher.specs.Served.{IsSettled}
use Rattle.flusher.specs.Stored.{OpensBetween}
use Rattle.flusher.specs.View.{FlusherView}

-- Rounds, one after another: none, or one and then rounds. A stop within a round leaves the register from before it or after it. At the
-- end of each, what was answered is borne out by what is durable then (`IsSettled`). A stop at any later moment leaves an image that opens
-- to all of that, or to more: so it has each command that was answered `ok` or `kept` before.
pub data AreLasting {D : Type 0} (view : D → View) (base : State) : FlusherView D → FlusherView D → Type 0 where
  no_more : (f : FlusherView D) → AreLasting view base f f
  onward : (f g h : FlusherView D) → IsRound view base f g → IsSettled base g
      → (f.store.broken ≡ false → KeepsImages view f.store g.store)
      → LeavesOnly (view g.store.disk) (view h.store.disk) (OpensBetween base g h)
      → AreLasting view base g h → AreLasting view base f h
