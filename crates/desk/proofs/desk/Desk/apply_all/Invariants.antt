use Rattle.std.proofs.Common.{◌≡◌, length, take}
use Rattle.std.specs.Prelude.{All, IfOk, vec_capacity}
use Rattle.desk.specs.Replies.{HasShortPdu}
use Rattle.desk.specs.Rules.{AreApplied}
use Rattle.desk.proofs.desk.Desk.apply_all.Given as goal

abbrev pub invariant-loop-k : goal.invariant-loop-k
invariant-loop-k g l = record {
  applied : AreApplied g.Self.Desk.rules (g.Self.Desk.world l.initial.self) (take l.k l.commands) l.replies.items (g.Self.Desk.world l.self);
  count : length l.replies.items ≡ l.k;
  short : All (λ reply. IfOk reply HasShortPdu) l.replies.items;
  room : vec_capacity l.replies ≡ vec_capacity l.initial.replies;
}
