use Rattle.std.proofs.Common.{◌≡◌, true, ℕ, length, [], ◌∷◌, refl, ap, sym, ◌∙◌, subst, arith, length-append}
use Rattle.std.specs.declared.alloc.Global.{Global}
use Rattle.centre_core.specs.Asked.{Asked}
use Rattle.answers.specs.Views.{received_of}
use Rattle.station_queue.specs.declared.entry.Entry.TheVariants.{Submitted}
use Rattle.flusher.specs.Heard.{IsHeard, heard}
use Rattle.flusher.specs.Submitted.{are_submitted}
use Rattle.flusher.proofs.Found.{none_came}
use Rattle.flusher.proofs.Submitting.{one_more_submitted}
use Rattle.flusher.proofs.Together.{submission, whole_heard}
use Rattle.flusher.proofs.session.Session.submit.Goals as goal

pub invariant_of-self : goal.invariant_of-self
invariant_of-self g c = record {
  submitted = subst (λ l. are_submitted l ≡ true) (sym c.send.ensures.sent) (one_more_submitted c.args.self.now.sender.sent c.in-Some.request c.args.self.now.submitted);
  few = c.args.self.now.few;
  answered = λ up. let before = c.args.self.now.answered (c.hear.ensures.all.found up) in
      let one_more = c.hear.ensures.all.all up in
      let put = ap length c.send.ensures.sent ∙ length-append c.args.self.now.sender.sent (Submitted c.in-Some.request ∷ []) in
      omega (arith, before, one_more, put);
}

pub returns-clause-submitted : goal.returns-clause-submitted
returns-clause-submitted g c =
    let base = g.J.Centre.base in
    let old = c.args.self.now in
    let h = heard (received_of old.receiver.pass) old.viewer (length old.viewer) in
    let k = heard (received_of c.hear.new.receiver.pass) c.hear.new.viewer c.hear.new.reached in
    let is : IsHeard base c.args.command h k c.hear.result =
    subst (λ (q : Asked Global × ℕ). IsHeard base q.0 (heard (received_of old.receiver.pass) old.viewer q.1) k c.hear.result)
    (λ i. ((c.deref.ensures ∙ c.in-Some.ensures.1) i, c.count-reached.ensures i)) c.hear.ensures.heard in
    submission base c.args.command old.sender.sent c.send.new.self.sent h (heard k.received k.seen (length k.seen)) c.hear.result
    (c.in-Some.request, c.in-Some.ensures.0, c.send.ensures.sent) (whole_heard base c.args.command h k c.hear.result is)

pub returns-clause-same : goal.returns-clause-same
returns-clause-same g c = record { queue = c.send.ensures.same.0; station = c.send.ensures.same.1; channel = c.hear.ensures.same; share = refl; gone = c.hear.ensures.all.found }

pub returns-clause-gone : goal.returns-clause-gone
returns-clause-gone g c = λ h.
    none_came c.args.self.now.listening c.hear.new.listening (received_of c.args.self.now.receiver.pass) (received_of c.hear.new.receiver.pass) c.hear.ensures.all h.0
