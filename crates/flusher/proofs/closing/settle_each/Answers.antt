use Rattle.std.proofs.Common.{◌≡◌, List, [], ◌∷◌, ◌++◌, length, ap, sym, ◌∙◌, subst, rules, arith, append_assoc}
use Rattle.std.specs.Prelude.{map}
use Rattle.std.specs.List.{AllZip}
use Rattle.std.proofs.lemmas.List.{append-nil, map-append}
use mathlib.Core.List.{IsPrefix}
use Rattle.base.proofs.Lists.{nil_of_length, zip_push}
use Rattle.crossbeam_channel.specs.Ends.{sends_on, receives_on}
use Rattle.answers.specs.Views.{sent_of, received_of}
use Rattle.answers.specs.declared.channel.AnswerSender.{AnswerSender}
use Rattle.station_queue.specs.declared.rule.Settled.{Settled}
use Rattle.station_queue.specs.Ends.{Taking, with_settled}
use Rattle.station_queue.specs.Order.{settled}
use Rattle.flusher.specs.Stages.{Sent}
use Rattle.flusher.specs.declared.session.Ended.{Ended}
use Rattle.flusher.proofs.Closed.{more_settled, next_of_all, no_first, none_settled, too_few}
use Rattle.flusher.proofs.closing.settle_each.Goals as goal

module _ {J : Type 0} where
  abbrev OnOne : AnswerSender Sent → Ended J → Type 0
  OnOne s e = receives_on e.receiver.channel ≡ sends_on s.channel

  abbrev Received : AnswerSender Sent → Ended J → Type 0
  Received s e = IsPrefix (received_of e.receiver.pass) (sent_of s.pass)

  abbrev value : Ended J → Settled
  value e = settled e.sender.station e.sender.sent

pub loop-end-init : goal.loop-end-init
loop-end-init g c =
    let senders = c.into_iter-senders.ensures.rest in
    let items : c.into_iter-end-iterator.result.rest.items ≡ c.args.ended.items = search rules in (
      none_settled c.args.taker.now,
      items,
      search rules,
      c.requires.queue,
      ([], senders, tt),
      subst (λ (q : List (AnswerSender Sent) × List (Ended g.row.J.Denot)). AllZip OnOne q.0 q.1) (λ j. (sym senders j, sym items j)) c.requires.channels,
      search rules,
    )

pub loop-end-preserved : goal.loop-end-preserved
loop-end-preserved g c =
    let i = c.loop-end.invariant in
    let end = c.in-Some.end in
    let sender = c.in-Some-next.sender in
    let yielded = c.loop-end.yielded in
    let e : c.loop-end.end-iterator.rest.items ≡ end ∷ c.next.new.self.rest.items = search rules in
    let f : c.loop-end.senders.rest.items ≡ sender ∷ c.next-in-loop-end.new.self.rest.items = c.in-Some-next.ensures.items in
    let both = subst (λ (q : List (AnswerSender Sent) × List (Ended g.row.J.Denot)). AllZip OnOne q.0 q.1) (λ j. (f j, e j)) i.5 in (
      more_settled c.args.taker.now c.loop-end.taker c.settle.new.taker (map value yielded) (value end) i.0 c.settle.ensures.settled ∙
          ap (with_settled c.args.taker.now) (sym (map-append value yielded (end ∷ []))),
      append_assoc yielded (end ∷ []) c.next.new.self.rest.items ∙ ap (λ l. yielded ++ l) (sym e) ∙ i.1,
      search rules,
      i.3,
      (
        i.4.0 ++ sender ∷ [],
        append_assoc i.4.0 (sender ∷ []) c.next-in-loop-end.new.self.rest.items ∙ ap (λ l. i.4.0 ++ l) (sym f) ∙ i.4.1,
        zip_push Received i.4.0 yielded sender end i.4.2 c.settle.ensures.received,
      ),
      both.1,
      (let old = i.6 in let long = ap length f in let less = c.in-Some-next.ensures.len in omega arith),
    )

pub settle-requires-clause-queue : goal.settle-requires-clause-queue
settle-requires-clause-queue g c =
    let i = c.loop-end.invariant in
    let e : c.loop-end.end-iterator.rest.items ≡ c.in-Some.end ∷ c.next.new.self.rest.items = search rules in
    next_of_all (λ (x : Ended g.row.J.Denot). x.sender.queue ≡ c.args.taker.now.queue) c.loop-end.yielded _ _ _ c.in-Some.end i.1 e i.3 ∙ sym (ap (λ (t : Taking). t.queue) i.0)

pub settle-requires-clause-channel : goal.settle-requires-clause-channel
settle-requires-clause-channel g c =
    let e : c.loop-end.end-iterator.rest.items ≡ c.in-Some.end ∷ c.next.new.self.rest.items = search rules in
    let f : c.loop-end.senders.rest.items ≡ c.in-Some-next.sender ∷ c.next-in-loop-end.new.self.rest.items = c.in-Some-next.ensures.items in
    (subst (λ (q : List (AnswerSender Sent) × List (Ended g.row.J.Denot)). AllZip OnOne q.0 q.1) (λ j. (f j, e j)) c.loop-end.invariant.5).0

pub returns-in_default-clause-settled : goal.returns-in_default-clause-settled
returns-in_default-clause-settled g c =
    let i = c.loop-end.invariant in
    let e : c.loop-end.end-iterator.rest.items ≡ c.in-Some.end ∷ c.next.new.self.rest.items = search rules in
    let len : c.loop-end.senders.rest.len ≡ 0 = search rules in
    absurd (too_few OnOne c.loop-end.senders.rest.items c.loop-end.end-iterator.rest.items _ _ i.5 (i.6 ∙ len) e)

pub returns-in_default-clause-received : goal.returns-in_default-clause-received
returns-in_default-clause-received g c =
    let i = c.loop-end.invariant in
    let e : c.loop-end.end-iterator.rest.items ≡ c.in-Some.end ∷ c.next.new.self.rest.items = search rules in
    let len : c.loop-end.senders.rest.len ≡ 0 = search rules in
    absurd (too_few OnOne c.loop-end.senders.rest.items c.loop-end.end-iterator.rest.items _ _ i.5 (i.6 ∙ len) e)

pub returns-clause-settled : goal.returns-clause-settled
returns-clause-settled g c =
    let i = c.loop-end.invariant in
    let len : c.loop-end.end-iterator.rest.len ≡ 0 = search rules in
    let e = nil_of_length c.loop-end.end-iterator.rest.items (i.2 ∙ len) in
    let all : c.loop-end.yielded ≡ c.args.ended.items = sym (append-nil c.loop-end.yielded) ∙ ap (λ l. c.loop-end.yielded ++ l) (sym e) ∙ i.1 in
    i.0 ∙ ap (λ l. with_settled c.args.taker.now (map value l)) all

pub returns-clause-received : goal.returns-clause-received
returns-clause-received g c =
    let i = c.loop-end.invariant in
    let len : c.loop-end.end-iterator.rest.len ≡ 0 = search rules in
    let e = nil_of_length c.loop-end.end-iterator.rest.items (i.2 ∙ len) in
    let f = no_first OnOne c.loop-end.senders.rest.items c.loop-end.end-iterator.rest.items i.5 e in
    let ends : c.loop-end.yielded ≡ c.args.ended.items = sym (append-nil c.loop-end.yielded) ∙ ap (λ l. c.loop-end.yielded ++ l) (sym e) ∙ i.1 in
    let senders : i.4.0 ≡ c.args.senders.items = sym (append-nil i.4.0) ∙ ap (λ l. i.4.0 ++ l) (sym f) ∙ i.4.1 in
    subst (λ (q : List (AnswerSender Sent) × List (Ended g.row.J.Denot)). AllZip Received q.0 q.1) (λ j. (senders j, ends j)) i.4.2
