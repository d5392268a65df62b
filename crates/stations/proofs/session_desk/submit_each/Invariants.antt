use Rattle.std.proofs.Common.{◌≡◌, take}
use Rattle.std.specs.Prelude.{All, IfOk, vec_capacity, vec_len}
use mathlib.Core.List.{IsPrefix}
use Rattle.desk.specs.Replies.{HasShortPdu}
use Rattle.desk.specs.Rules.{AreApplied}
use Rattle.flusher.specs.Sessions.{IsSameSession}
use Rattle.stations.specs.OfSession.{at_session, of_session}
use Rattle.stations.proofs.session_desk.submit_each.Given as goal

abbrev pub invariant-loop-k : goal.invariant-loop-k
invariant-loop-k g l = record {
  applied : AreApplied (of_session g.row.J.Denot g.J.Centre.base l.means.orders) (at_session l.initial.session) (take l.k l.commands) l.replies.items (at_session l.session);
  count : vec_len l.replies ≡ l.k;
  short : All (λ reply. IfOk reply HasShortPdu) l.replies.items;
  room : vec_capacity l.replies ≡ vec_capacity l.initial.replies;
  same : IsSameSession l.initial.session l.session;
  seen : IsPrefix l.initial.session.viewer l.session.viewer;
}
