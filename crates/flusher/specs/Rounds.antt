-- One round.
use Rattle.std.specs.Prelude.{◌≡◌, List}
use Rattle.sector_disk.specs.Disk.{View}
use Rattle.centre_core.specs.State.{State}
use Rattle.station_queue.specs.declared.entry.Entry.{Entry}
use Rattle.flusher.specs.Shared.{commands_among}
use Rattle.flusher.specs.Batches.{HasTaken, ended_by}
use Rattle.flusher.specs.Served.{HasServed}
use Rattle.flusher.specs.View.{FlusherView, progress_of}

-- Between these two views entries were taken, the ends among them were noted, and the commands among them were served. Each was answered
-- after the last call of the disk, so at the moment of the second view.
pub record IsRound {D : Type 0} (view : D → View) (base : State) (f g : FlusherView D) : Type 0 where
  pub popped : List Entry
  pub taken : HasTaken f.taker popped g.taker
  pub ended : g.ended ≡ ended_by popped f.ended
  pub served : HasServed base (view g.store.disk).moment (progress_of f) (progress_of g) (commands_among popped) f.senders g.senders
