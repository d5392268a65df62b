use Rattle.std.proofs.Common.{◌≡◌, ◌+◌, ◌++◌, [], ◌∷◌, List, length, take, ◌∙◌, ap, sym, subst, arith, length-append}
use Rattle.std.specs.Prelude.{All, IfOk, Result}
use Rattle.std.proofs.Math.Seq.{take-suc}
use Rattle.std.proofs.lemmas.List.Elements.{All-push}
use Rattle.base.proofs.Lists.{take_one}
use Rattle.centre_core.specs.declared.command.Command.{Command}
use Rattle.centre_core.specs.declared.reply.Reply.{Reply}
use Rattle.desk.specs.declared.outage.Outage.{Outage}
use Rattle.desk.specs.Replies.{HasShortPdu}
use Rattle.desk.specs.Rules.{AreApplied}
use Rattle.desk.proofs.InTurn.{applied_more}
use Rattle.desk.proofs.desk.Desk.apply_all.Goals as goal

pub loop-k-preserved : goal.loop-k-preserved
loop-k-preserved g c =
    let rules = g.Self.Desk.rules in
    let i = c.loop-k.invariant in
    let k = c.loop-k.k in
    let command = c.index-commands-k.result in
    let one = take_one c.args.commands.now k command c.loop-k-test.true c.index-commands-k.is in
    let s = g.Self.Desk.world c.args.self.now in
    let t = g.Self.Desk.world c.apply-reply.new.self in
    let more = c.push_reserved.ensures.items in
    let Short : Result (Reply g.row.A.Denot) Outage → Type 0 = λ reply. IfOk reply HasShortPdu in
    record {
      applied = subst (λ (q : List (Command g.row.A.Denot) × List (Result (Reply g.row.A.Denot) Outage)). AreApplied rules s q.0 q.1 t) (λ j. (sym one j, sym more j))
          (applied_more rules (take k c.args.commands.now) command s (g.Self.Desk.world c.loop-k.self) t c.loop-k.replies.items c.apply-reply.result i.applied c.apply-reply.ensures.applies);
      count = omega (arith, ap length more, length-append c.loop-k.replies.items (c.apply-reply.result ∷ []), i.count);
      short = subst (All Short) (sym more) (All-push Short c.loop-k.replies.items c.apply-reply.result i.short c.apply-reply.ensures.short);
      room = c.push_reserved.ensures.capacity ∙ i.room;
    }
