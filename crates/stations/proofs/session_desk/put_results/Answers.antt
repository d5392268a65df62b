use Rattle.std.proofs.Common.{◌≡◌, ◌++◌, [], ◌∷◌, length, ◌∙◌, ap, sym, subst, arith, append_assoc, length-append}
use Rattle.std.specs.Prelude.{All, IfOk, Result, map}
use Rattle.std.proofs.lemmas.List.{map-append}
use Rattle.std.proofs.lemmas.List.Elements.{All-push}
use Rattle.std.specs.declared.alloc.Global.{Global}
use Rattle.centre_core.specs.declared.reply.Reply.{Reply}
use Rattle.desk.specs.declared.outage.Outage.{Outage}
use Rattle.desk.specs.Replies.{HasShortPdu}
use Rattle.flusher.specs.Submitted.{HasShortAnswer}
use Rattle.stations.specs.OfSession.{result_of}
use Rattle.stations.proofs.Submissions.{next_of_all, short_result}
use Rattle.stations.proofs.session_desk.put_results.Goals as goal

pub loop-answer-preserved : goal.loop-answer-preserved
loop-answer-preserved g c =
    let i = c.loop-answer.invariant in
    let done = c.loop-answer.yielded in
    let answer = c.in-Some.answer in
    let rest = c.next.new.self.rest.items in
    let step = c.in-Some.ensures.steps in
    let more = c.push_reserved.ensures.items in
    let split = subst (λ l. done ++ l ≡ c.args.answers.items) step.0 i.in_turn in
    let Short : Result (Reply Global) Outage → Type 0 = λ reply. IfOk reply HasShortPdu in
    let one : HasShortAnswer answer = next_of_all HasShortAnswer done c.loop-answer.answer-iterator.rest.items c.args.answers.items rest answer i.in_turn step.0 c.requires.short in
    let short : Short c.result_of.result = subst Short (sym c.result_of.ensures) (short_result answer one) in
    record {
      in_turn = append_assoc done (answer ∷ []) rest ∙ split;
      rest = omega (arith, ap length step.0, step.1, i.rest);
      added = more ∙ ap (λ l. l ++ c.result_of.result ∷ []) i.added ∙ ap (λ r. map result_of done ++ r ∷ []) c.result_of.ensures ∙ sym (map-append result_of done (answer ∷ []));
      count = omega (arith, c.push_reserved.ensures.len, i.count, length-append done (answer ∷ []));
      short = subst (All Short) (sym more) (All-push Short c.loop-answer.replies.items c.result_of.result i.short short);
      room = c.push_reserved.ensures.capacity ∙ i.room;
    }
