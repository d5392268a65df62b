use Rattle.std.proofs.Common.{◌≡◌, ◌≤◌, arith, ◌++◌, drop, sym, ◌∙◌, ap, subst}
use Rattle.std.specs.Prelude.{fold}
use Rattle.std.specs.VecDeque.{deque_capacity}
use Rattle.std.proofs.lemmas.List.{append-nil}
use mathlib.Core.List.{IsPrefix}
use Rattle.centre_core.specs.History.{after}
use Rattle.centre_core.specs.Histories.{IsHistory}
use Rattle.snapshots.specs.Changes.{after_change}
use Rattle.snapshots.specs.Views.{IsSnapshot}
use Rattle.snapshots.proofs.Prefixes.{prefix_self}
use Rattle.snapshots.proofs.publisher.Publisher.publish.Goals as goal

pub invariant_of-self-in-Ok : goal.invariant_of-self-in-Ok
invariant_of-self-in-Ok g c =
    let i = c.self.invariant in
    let base = g.J.Centre.base in
    let appended = c.self.inside.appended in
    let f = after_change (λ k. k.list) in
    let old = c.self.inside.writer in
    let mid = c.hand_over.new.writer in
    let new = c.publish_now.new.writer in
    let none = c.hand_over.ensures.done c.if-not-hand_over.false in
    let desk = c.hand_over.ensures.desk in
    let all : fold f (mid.desk.shown.value.register, mid.desk.shown.value.list) (drop mid.behind mid.log.items ++ c.hand_over.new.pending.items) ≡ (after base appended.log, appended) =
    ap (λ d. fold f (d.shown.value.register, d.shown.value.list) (drop mid.behind mid.log.items ++ c.hand_over.new.pending.items)) desk
    ∙ ap (fold f (old.desk.shown.value.register, old.desk.shown.value.list)) c.hand_over.ensures.same ∙ i.7 in
    let whole : fold f (mid.desk.shown.value.register, mid.desk.shown.value.list) (drop mid.behind mid.log.items) ≡ (after base appended.log, appended) =
    ap (fold f (mid.desk.shown.value.register, mid.desk.shown.value.list)) (sym (append-nil (drop mid.behind mid.log.items)) ∙ ap (λ w. drop mid.behind mid.log.items ++ w) (sym none)) ∙ all in
    let room : 64 ≤ deque_capacity c.hand_over.new.pending = (let a = c.hand_over.ensures.capacity in let b = i.8 in omega arith) in
    let ok = c.in-Ok.ensures in
    let p = ok.0 ∙ whole in
    let reg = ap (λ q. q.0) p in
    let lst = ap (λ q. q.1) p in (
      i.0,
      i.1,
      i.2,
      i.3,
      i.4,
      (reg ∙ ap (λ l. after base l.log) (sym lst), subst (λ l. IsHistory base l.log) (sym lst) i.4, ap (λ l. l.book) lst ∙ i.1),
      subst (λ l. IsPrefix l.log appended.log) (sym lst) (prefix_self appended.log),
      (λ j. fold f (new.desk.shown.value.register, new.desk.shown.value.list) (ok.1 j ++ none j)) ∙ p,
      room,
    )

pub invariant_of-self-in-Err : goal.invariant_of-self-in-Err
invariant_of-self-in-Err g c =
    let i = c.self.invariant in
    let base = g.J.Centre.base in
    let book = g.J.Centre.book in
    let appended = c.self.inside.appended in
    let f = after_change (λ k. k.list) in
    let old = c.self.inside.writer in
    let mid = c.hand_over.new.writer in
    let desk = c.hand_over.ensures.desk in
    let all : fold f (mid.desk.shown.value.register, mid.desk.shown.value.list) (drop mid.behind mid.log.items ++ c.hand_over.new.pending.items) ≡ (after base appended.log, appended) =
    ap (λ d. fold f (d.shown.value.register, d.shown.value.list) (drop mid.behind mid.log.items ++ c.hand_over.new.pending.items)) desk
    ∙ ap (fold f (old.desk.shown.value.register, old.desk.shown.value.list)) c.hand_over.ensures.same ∙ i.7 in
    let room : 64 ≤ deque_capacity c.hand_over.new.pending = (let a = c.hand_over.ensures.capacity in let b = i.8 in omega arith) in
    let err = c.in-Err.ensures in
    let same = err.0 ∙ ap (λ d. d.shown.value) desk in (
      i.0,
      i.1,
      i.2,
      i.3,
      i.4,
      subst (IsSnapshot base book) (sym same) i.5,
      subst (λ x. IsPrefix x.list.log appended.log) (sym same) i.6,
      (λ j. fold f ((err.0 j).register, (err.0 j).list) (err.1 j ++ c.hand_over.new.pending.items)) ∙ all,
      room,
    )
