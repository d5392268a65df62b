use Rattle.std.proofs.Common.{List, length, take, ◌∙◌, sym, subst, arith}
use Rattle.std.proofs.lemmas.List.{take_all}
use Rattle.std.specs.Prelude.{All}
use Rattle.std.specs.declared.alloc.Global.{Global}
use Rattle.std.proofs.lemmas.List.Elements.{All-push}
use Rattle.base.proofs.Lists.{take_one}
use Rattle.centre_core.specs.Asked.{Asked}
use Rattle.answers.specs.Views.{received_of}
use Rattle.flusher.specs.declared.answer.Answer.{Answer}
use Rattle.flusher.specs.Heard.{AreHeard, heard}
use Rattle.flusher.specs.Submitted.{HasShortAnswer}
use Rattle.flusher.proofs.Together.{heard_more, all_heard}
use Rattle.flusher.proofs.hearing.hear_all.Goals as goal

pub loop-k-preserved : goal.loop-k-preserved
loop-k-preserved g c =
    let base = g.J.Centre.base in
    let i = c.loop-k.invariant in
    let k = c.loop-k.k in
    let command = c.index-commands-k.result in
    let one = take_one c.args.commands.now k command c.loop-k-test.true c.index-commands-k.is in
    let old = heard (received_of c.args.receiver.now.pass) c.args.viewer.now (length c.args.viewer.now) in
    let mid = heard (received_of c.loop-k.receiver.pass) c.loop-k.viewer c.loop-k.reached in
    let new = heard (received_of c.hear-answer.new.receiver.pass) c.hear-answer.new.viewer c.hear-answer.new.reached in
    let more = c.push_reserved.ensures.items in
    record {
      heard = subst (λ (q : List (Asked Global) × List (Answer g.row.J.Denot)). AreHeard base q.0 old new q.1) (λ j. (sym one j, sym more j))
          (heard_more base (take k c.args.commands.now) command old mid new c.loop-k.answers.items c.hear-answer.result i.heard c.hear-answer.ensures.heard);
      within = c.hear-answer.ensures.heard.reached.1;
      all = record {
        found = λ up. i.all.found (c.hear-answer.ensures.all.found up);
        all = λ up. omega (arith, c.hear-answer.ensures.all.all up, i.all.all (c.hear-answer.ensures.all.found up));
      };
      count = omega (arith, c.push_reserved.ensures.len, i.count);
      short = subst (All HasShortAnswer) (sym more) (All-push HasShortAnswer c.loop-k.answers.items c.hear-answer.result i.short c.hear-answer.ensures.short);
      room = c.push_reserved.ensures.capacity ∙ i.room;
      same = c.hear-answer.ensures.same ∙ i.same;
    }

pub returns-clause-heard : goal.returns-clause-heard
returns-clause-heard g c =
    let base = g.J.Centre.base in
    let i = c.loop-k.invariant in
    let seen = c.args.viewer.now in
    let old = heard (received_of c.args.receiver.now.pass) seen (length seen) in
    let new = heard (received_of c.loop-k.receiver.pass) c.loop-k.viewer c.loop-k.reached in
    let whole = take_all c.loop-k.k c.args.commands.now c.loop-k-test.false in
    all_heard base c.args.commands.now (received_of c.args.receiver.now.pass) seen new c.loop-k.answers.items
    (subst (λ l. AreHeard base l old new c.loop-k.answers.items) whole i.heard)
