use Rattle.std.proofs.Common.{◌≡◌, ◌+◌, ◌++◌, [], length}
use Rattle.std.specs.Prelude.{All, vec_capacity}
use Rattle.flusher.specs.declared.session.Session.{Session}
use Rattle.flusher.specs.Opened.{AreNewSessions}
use Rattle.flusher.proofs.opening.open_sessions.Given as goal

abbrev pub invariant-loop-sender : goal.invariant-loop-sender
invariant-loop-sender g l = record {
  in_turn : l.yielded ++ l.sender-iterator.rest.items ≡ l.fn.stations.items;
  rest : length l.sender-iterator.rest.items ≡ l.sender-iterator.rest.len;
  count : length l.senders.items ≡ length l.yielded;
  viewers : length l.viewers.items + length l.yielded ≡ length l.fn.stations.items;
  none_seen : All (λ v. v ≡ []) l.viewers.items;
  room : vec_capacity l.senders ≡ length l.fn.stations.items;
  also_room : vec_capacity l.sessions ≡ length l.fn.stations.items;
  shares : All (λ (s : Session g.row.J.Denot). s.share ≡ l.share) l.sessions.items;
  made : AreNewSessions l.fn.taker.queue l.senders.items l.sessions.items;
}
