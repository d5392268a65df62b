use Rattle.std.proofs.Common.{List, take, ◌∙◌, sym, subst, arith}
use Rattle.std.specs.Prelude.{All, IfOk, Result}
use Rattle.std.proofs.lemmas.List.Elements.{All-push}
use Rattle.std.specs.declared.alloc.Global.{Global}
use Rattle.base.proofs.Lists.{take_one}
use Rattle.snapshots.proofs.Prefixes.{prefix_trans}
use Rattle.centre_core.specs.Asked.{Asked}
use Rattle.centre_core.specs.declared.reply.Reply.{Reply}
use Rattle.desk.specs.declared.outage.Outage.{Outage}
use Rattle.desk.specs.Replies.{HasShortPdu}
use Rattle.desk.specs.Rules.{AreApplied}
use Rattle.desk.proofs.InTurn.{applied_more}
use Rattle.flusher.proofs.Sessions.{same_on}
use Rattle.stations.specs.OfSession.{at_session, of_session}
use Rattle.stations.proofs.session_desk.submit_each.Goals as goal

pub loop-k-preserved : goal.loop-k-preserved
loop-k-preserved g c =
    let rules = of_session g.row.J.Denot g.J.Centre.base c.args.means.now.orders in
    let i = c.loop-k.invariant in
    let k = c.loop-k.k in
    let command = c.index-commands-k.result in
    let one = take_one c.args.commands.now k command c.loop-k-test.true c.index-commands-k.is in
    let s = at_session c.args.session.now in
    let t = at_session c.submit-reply.new.session in
    let more = c.push_reserved.ensures.items in
    let Short : Result (Reply Global) Outage → Type 0 = λ reply. IfOk reply HasShortPdu in
    record {
      applied = subst (λ (q : List (Asked Global) × List (Result (Reply Global) Outage)). AreApplied rules s q.0 q.1 t) (λ j. (sym one j, sym more j))
          (applied_more rules (take k c.args.commands.now) command s (at_session c.loop-k.session) t c.loop-k.replies.items c.submit-reply.result i.applied c.submit-reply.ensures.applies);
      count = omega (arith, c.push_reserved.ensures.len, i.count);
      short = subst (All Short) (sym more) (All-push Short c.loop-k.replies.items c.submit-reply.result i.short c.submit-reply.ensures.short);
      room = c.push_reserved.ensures.capacity ∙ i.room;
      same = same_on c.args.session.now c.loop-k.session c.submit-reply.new.session i.same c.submit-reply.ensures.session.same;
      seen = prefix_trans c.args.session.now.viewer c.loop-k.session.viewer c.submit-reply.new.session.viewer i.seen c.submit-reply.ensures.session.seen;
    }

pub returns-clause-session : goal.returns-clause-session
returns-clause-session g c = record { same = c.loop-k.invariant.same; seen = c.loop-k.invariant.seen }
