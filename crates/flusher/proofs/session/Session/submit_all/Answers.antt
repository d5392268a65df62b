use Rattle.std.proofs.Common.{◌≡◌, ◌-◌, ◌++◌, List, length, take, drop, refl, ap, sym, ◌∙◌, subst, arith}
use Rattle.std.specs.Prelude.{replicate}
use Rattle.std.proofs.lemmas.List.{take-append-drop, length-drop, length-take-le}
use Rattle.std.specs.declared.alloc.Global.{Global}
use Rattle.centre_core.specs.Asked.{Asked}
use Rattle.answers.specs.Views.{received_of}
use Rattle.flusher.specs.declared.answer.Answer.{Answer}
use Rattle.flusher.specs.declared.answer.Answer.TheVariants as answer
use Rattle.flusher.specs.Heard.{heard, session_view}
use Rattle.flusher.specs.Submitted.{AreSubmissions}
use Rattle.flusher.proofs.Submitting.{more_submitted, put_count}
use Rattle.flusher.proofs.Together.{drop_first, seen_longer, then_refused, together}
use Rattle.flusher.proofs.session.Session.submit_all.Goals as goal

pub invariant_of-self : goal.invariant_of-self
invariant_of-self g c = record {
  submitted = more_submitted (take c.put_all-put.result c.args.commands.now) c.args.self.now.sender.sent c.put_all-put.new.sender.sent c.put_all-put.ensures.put c.args.self.now.submitted;
  few = c.args.self.now.few;
  answered = λ up. let before = c.args.self.now.answered (c.hear_all.ensures.all.found up) in
      let more = c.hear_all.ensures.all.all up in
      let put = put_count (take c.put_all-put.result c.args.commands.now) c.args.self.now.sender.sent c.put_all-put.new.sender.sent c.put_all-put.ensures.put in
      omega (arith, before, more, put);
}

pub refuse_all-requires-clause-room : goal.refuse_all-requires-clause-room
refuse_all-requires-clause-room g c =
    let within = c.put_all-put.ensures.within in
    let few = length-take-le c.put_all-put.result c.args.commands.now within in
    omega (arith, c.hear_all.ensures.count, few, within, c.hear_all.ensures.room, c.clear.ensures.capacity, c.requires.room)

pub returns-clause-submitted : goal.returns-clause-submitted
returns-clause-submitted g c =
    let base = g.J.Centre.base in
    let old = c.args.self.now in
    let commands = c.args.commands.now in
    let put = c.put_all-put.result in
    let h = heard (received_of old.receiver.pass) old.viewer (length old.viewer) in
    let k = heard (received_of c.hear_all.new.receiver.pass) c.hear_all.new.viewer (length c.hear_all.new.viewer) in
    let v = session_view old.sender.sent h in
    let w = session_view c.put_all-put.new.sender.sent k in
    let first = together base (take put commands) old.sender.sent c.put_all-put.new.sender.sent h k c.hear_all.new.answers.items c.put_all-put.ensures.put c.hear_all.ensures.heard in
    let all = then_refused g.row.J.Denot base (take put commands) (drop put commands) v w c.hear_all.new.answers.items (omega arith) first in
    let rest : length (drop put commands) ≡ length commands - put = length-drop put commands in
    let answers : c.hear_all.new.answers.items ++ replicate (length (drop put commands)) answer.NoMemory ≡ c.refuse_all.new.answers.items =
    ap (λ n. c.hear_all.new.answers.items ++ replicate n answer.NoMemory) rest ∙ sym c.refuse_all.ensures.added in
    subst (λ (q : List (Asked Global) × List (Answer g.row.J.Denot)). AreSubmissions base q.0 v w q.1) (λ i. (take-append-drop put commands i, answers i)) all

pub returns-clause-put : goal.returns-clause-put
returns-clause-put g c =
    let commands = c.args.commands.now in
    let put = c.put_all-put.result in
    let got = c.hear_all.new.answers.items in
    let rest = replicate (length commands - put) answer.NoMemory in
    let first = length-take-le put commands c.put_all-put.ensures.within in
    let count : length got ≡ put = omega (arith, c.hear_all.new.answers.ok.0, c.hear_all.ensures.count, first) in
    (put, c.put_all-put.ensures.put, ap (drop put) c.refuse_all.ensures.added ∙ subst (λ n. drop n (got ++ rest) ≡ rest) count (drop_first got rest))

pub returns-clause-seen : goal.returns-clause-seen
returns-clause-seen g c =
    let base = g.J.Centre.base in
    let old = c.args.self.now in
    let put = take c.put_all-put.result c.args.commands.now in
    let h = heard (received_of old.receiver.pass) old.viewer (length old.viewer) in
    let k = heard (received_of c.hear_all.new.receiver.pass) c.hear_all.new.viewer (length c.hear_all.new.viewer) in
    let first = together base put old.sender.sent c.put_all-put.new.sender.sent h k c.hear_all.new.answers.items c.put_all-put.ensures.put c.hear_all.ensures.heard in
    seen_longer base put (session_view old.sender.sent h) (session_view c.put_all-put.new.sender.sent k) c.hear_all.new.answers.items first

pub returns-clause-same : goal.returns-clause-same
returns-clause-same g c = record {
  queue = c.put_all-put.ensures.same.0;
  station = c.put_all-put.ensures.same.1;
  channel = c.hear_all.ensures.same;
  share = refl;
  gone = c.hear_all.ensures.all.found;
}
