-- What became of a flusher while stations were served.
use Rattle.std.specs.Prelude.{◌≡◌, ◌≤◌, true, false}
use Rattle.sector_disk.specs.Disk.{HasFailed, View}
use Rattle.sector_disk.specs.Run.{LeavesOnly}
use Rattle.centre_core.specs.State.{State}
use Rattle.flusher.specs.Lasting.{AreLasting}
use Rattle.flusher.specs.Runs.{AreRounds, HasSameEnds, HasStopped, HasTakenEnds}
use Rattle.flusher.specs.Served.{IsSettled}
use Rattle.flusher.specs.Stored.{IsStoredFor, OpensBetween}
use Rattle.flusher.specs.View.{FlusherView}

-- The flusher did rounds until it had taken the end of each session, and none after. It has the same queue and channels as before.
pub record HasFlushed {D : Type 0} (disk : D → View) (base : State) (first last : FlusherView D) : Type 0 where
  pub rounds : AreRounds disk base first last
  pub ended : HasTakenEnds last
  pub at_once : HasStopped disk base first last
  pub same : HasSameEnds first last
  -- what is durable then is a history, and the register of a sound store is what it makes of the base
  pub settled : IsSettled base last
  -- Each image of the disk opens to what is durable in the end. If the disk has failed, it may open to this and what was under way.
  pub stored : IsStoredFor disk base first → IsStoredFor disk base last
  -- If the store was sound at first, a stop at any moment leaves a disk that opens to at least what was durable at first, and to at most what is
  -- durable in the end (`OpensBetween`).
  pub any_moment : IsStoredFor disk base first → first.store.broken ≡ false
      → LeavesOnly (disk first.store.disk) (disk last.store.disk) (OpensBetween base first last)
  -- after a stop at any moment since a round, the disk opens to at least what was durable at the end of this round
  pub lasting : IsStoredFor disk base first → AreLasting disk base first last
  -- the disk counts no fewer failures than before, and only a failure of the disk breaks the store
  pub later : (disk first.store.disk).failures ≤ (disk last.store.disk).failures
  pub failed : first.store.broken ≡ false → last.store.broken ≡ true → HasFailed (disk first.store.disk) (disk last.store.disk)
