use Rattle.std.proofs.Common.{◌≤◌}
use Rattle.flusher.specs.View.{view_of_flusher}
use Rattle.flusher.specs.Served.{IsSettled}
use Rattle.flusher.specs.Stored.{IsStoredFor}
use Rattle.flusher.specs.OnDisk.{AreRoundsStored, BreaksByDisk}
use Rattle.flusher.specs.Runs.{AreRounds, HasSameEnds, HasStopped}
use Rattle.flusher.proofs.flusher.Flusher.run.Given as goal

abbrev pub invariant-loop : goal.invariant-loop
invariant-loop g l = record {
  settled : IsSettled g.J.Centre.base (view_of_flusher l.self);
  rounds : AreRounds g.D.Disk.view g.J.Centre.base (view_of_flusher l.initial.self) (view_of_flusher l.self);
  stored : IsStoredFor g.D.Disk.view g.J.Centre.base (view_of_flusher l.initial.self) → AreRoundsStored g.D.Disk.view g.J.Centre.base (view_of_flusher l.initial.self) (view_of_flusher l.self);
  breaks : BreaksByDisk g.D.Disk.view (view_of_flusher l.initial.self).store (view_of_flusher l.self).store;
  same : HasSameEnds (view_of_flusher l.initial.self) (view_of_flusher l.self);
  counted : l.initial.self.rounds ≤ l.self.rounds;
  at_once : HasStopped g.D.Disk.view g.J.Centre.base (view_of_flusher l.initial.self) (view_of_flusher l.self);
}
