use Rattle.std.proofs.Common.{◌≡◌, take}
use Rattle.flusher.specs.Heard.{ArePut}
use Rattle.flusher.proofs.putting.put_all.Given as goal

abbrev pub invariant-loop-k : goal.invariant-loop-k
invariant-loop-k g l = record {
  put : ArePut (take l.k l.commands) l.initial.sender.sent l.sender.sent;
  queue : l.sender.queue ≡ l.initial.sender.queue;
  station : l.sender.station ≡ l.initial.sender.station;
}
