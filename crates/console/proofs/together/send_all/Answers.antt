use Rattle.std.proofs.Common.{◌+◌, ◌<◌, ◌++◌, [], ◌||◌, length, take, drop, refl, sym, ◌∙◌, ap, subst, arith}
use Rattle.std.specs.Prelude.{IfOk, Result}
use Rattle.std.specs.List.{list_any}
use Rattle.std.proofs.lemmas.List.{append-nil, take_all}
use Rattle.std.proofs.lemmas.List.Concat.{flat_map-append}
use Rattle.base.proofs.Results.{on_err}
use Rattle.centre_core.specs.declared.reply.Reply.{Reply}
use Rattle.desk.specs.declared.outage.Outage.{Outage}
use Rattle.desk.specs.Replies.{HasShortPdu}
use Rattle.console.specs.Answer.{is_trouble, text, texts}
use Rattle.console.specs.Inside.Passing.{sent_by}
use Rattle.console.specs.Inside.Together.{answer_for, answers_for}
use Rattle.console.proofs.AtOnce.{answers_more, answers_split}
use Rattle.console.proofs.Talk.{texts_more, trouble_more}
use Rattle.console.proofs.Told.{part_passes, passes_by, passes_on, still_passes}
use Rattle.console.proofs.together.send_all.Goals as goal

pub loop-k-init : goal.loop-k-init
loop-k-init g c =
    let begun = sent_by g.W.Write.contents c.args.output.now in
    record {
      page = omega (arith, c.clear.ensures.capacity);
      told = passes_by begun begun [] [] [] [] [] c.clear.new.self.items refl refl (sym c.clear.ensures.items) (still_passes begun []);
      trouble = refl;
      writer = refl;
      failures = refl;
      ledger = refl;
    }

pub returns-in_err-make_room-clause-err : goal.returns-in_err-make_room-clause-err
returns-in_err-make_room-clause-err g c =
    let k = c.loop-k.k in
    let cs = c.args.commands.now in
    let rs = c.args.replies.now in
    let first = answers_for (take k cs) (take k rs) in
    let last = answers_for (drop k cs) (drop k rs) in
    let failed = c.in_err-make_room.ensures.err in
    on_err c.from_residual.result
    (part_passes (sent_by g.W.Write.contents c.args.output.now) (sent_by g.W.Write.contents c.loop-k.output) (sent_by g.W.Write.contents c.make_room.new.output)
    (texts first) c.loop-k.page.items failed.0 (texts (answers_for cs rs)) (texts last) c.loop-k.invariant.told failed.1 (ap texts (answers_split k cs rs) ∙ flat_map-append text first last))

pub give_result-troubled-requires-clause-short : goal.give_result-troubled-requires-clause-short
give_result-troubled-requires-clause-short g c =
    let lt : c.loop-k.k < length c.args.replies.now = omega (arith, c.loop-k-test.true, c.requires.each) in
    subst (λ (r : Result (Reply g.row.B.Denot) Outage). IfOk r HasShortPdu) (sym c.index-replies-k.is) (c.requires.short c.loop-k.k c.index-replies-k.result lt)

pub loop-k-preserved : goal.loop-k-preserved
loop-k-preserved g c =
    let contents = g.W.Write.contents in
    let i = c.loop-k.invariant in
    let k = c.loop-k.k in
    let cs = c.args.commands.now in
    let rs = c.args.replies.now in
    let command = c.index-commands-k.result in
    let reply = c.index-replies-k.result in
    let first = answers_for (take k cs) (take k rs) in
    let a = answer_for command reply in
    let more = answers_more cs rs k command reply c.loop-k-test.true c.requires.each c.index-commands-k.is c.index-replies-k.is in
    let begun = sent_by contents c.args.output.now in
    let made = c.make_room.new.page.items in
    let page = c.give_result-troubled.new.page.items in
    let room = passes_on begun (sent_by contents c.loop-k.output) (sent_by contents c.make_room.new.output) [] (texts first) c.loop-k.page.items [] made i.told c.in_ok-make_room.ensures.ok in
    record {
      page = omega (arith, i.page, c.make_room.ensures.capacity, c.give_result-troubled.ensures.capacity);
      told = passes_by begun (sent_by contents c.give_result-troubled.new.output) [] ((texts first ++ []) ++ text a) page [] (texts (answers_for (take (k + 1) cs) (take (k + 1) rs))) page refl
          (ap (λ l. l ++ text a) (append-nil (texts first)) ∙ sym (texts_more first a) ∙ ap texts (sym more)) refl
          (passes_on begun (sent_by contents c.make_room.new.output) (sent_by contents c.give_result-troubled.new.output) [] (texts first ++ []) made
          (text a) page room c.give_result-troubled.ensures.told);
      trouble = (λ j. i.trouble j || c.give_result-troubled.ensures.trouble j) ∙ sym (trouble_more first a) ∙ ap (list_any is_trouble) (sym more);
      writer = c.give_result-troubled.ensures.output.writer ∙ c.make_room.ensures.writes.same.writer ∙ i.writer;
      failures = c.give_result-troubled.ensures.output.failures ∙ c.make_room.ensures.writes.same.failures ∙ i.failures;
      ledger = omega (arith, c.give_result-troubled.ensures.ledger, c.in_ok-make_room.ensures.writes.ledger, i.ledger);
    }

pub returns-in_err-send-clause-err : goal.returns-in_err-send-clause-err
returns-in_err-send-clause-err g c =
    let contents = g.W.Write.contents in
    let k = c.loop-k.k in
    let cs = c.args.commands.now in
    let rs = c.args.replies.now in
    let first = answers_for (take k cs) (take k rs) in
    let last = answers_for (drop k cs) (drop k rs) in
    let failed = c.in_err-send.ensures.err in
    let mid = sent_by contents c.loop-k.output in
    let new = sent_by contents c.send.new.self in
    on_err c.from_residual-in_err-send.result
    (part_passes (sent_by contents c.args.output.now) mid new
    (texts first) c.loop-k.page.items failed.0 (texts (answers_for cs rs)) (texts last) c.loop-k.invariant.told
    (passes_by mid new c.as_slice.result.now [] failed.0 c.loop-k.page.items [] failed.0 c.as_slice.ensures.value refl refl failed.1)
    (ap texts (answers_split k cs rs) ∙ flat_map-append text first last))

pub returns-clause-ok : goal.returns-clause-ok
returns-clause-ok g c =
    let contents = g.W.Write.contents in
    let k = c.loop-k.k in
    let cs = c.args.commands.now in
    let rs = c.args.replies.now in
    let first = answers_for (take k cs) (take k rs) in
    let all = take_all k cs c.loop-k-test.false in
    let also = take_all k rs (omega (arith, c.loop-k-test.false, c.requires.each)) in
    let begun = sent_by contents c.args.output.now in
    let mid = sent_by contents c.loop-k.output in
    let new = sent_by contents c.send.new.self in
    passes_by begun new [] (texts first ++ []) [] [] (texts (answers_for cs rs)) [] refl (append-nil (texts first) ∙ (λ j. texts (answers_for (all j) (also j)))) refl
    (passes_on begun mid new [] (texts first) c.loop-k.page.items [] [] c.loop-k.invariant.told
    (passes_by mid new c.as_slice.result.now [] [] c.loop-k.page.items [] [] c.as_slice.ensures.value refl refl c.in_ok-send.ensures.ok))
