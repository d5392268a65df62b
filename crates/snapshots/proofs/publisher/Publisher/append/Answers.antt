use Rattle.std.proofs.Common.{◌≡◌, ◌∷◌, ◌++◌, [], length, drop, sym, ◌∙◌, ap, subst, arith, length-append}
use mathlib.Core.List.{IsPrefix}
use Rattle.snapshots.proofs.Prefixes.{prefix_longer}
use Rattle.snapshots.proofs.Folding.{fold_more}
use Rattle.std.specs.Arc.{arc_value}
use Rattle.std.specs.Prelude.{IsTrue}
use Rattle.centre_core.specs.History.{accepts, after}
use Rattle.centre_core.specs.Histories.{IsHistory}
use Rattle.snapshots.proofs.CommandLists.{next-room, history-snoc, after-snoc}
use Rattle.snapshots.specs.Changes.{PublisherView}
use Rattle.snapshots.proofs.publisher.Publisher.append.Goals as goal

pub added_to_log-requires-clause-room : goal.added_to_log-requires-clause-room
added_to_log-requires-clause-room g c =
    let i = c.self.invariant in
    let next : IsTrue (accepts (after g.J.Centre.base c.self.inside.appended.log) (arc_value c.args.command)) =
    subst (λ (s : PublisherView). IsTrue (accepts (after g.J.Centre.base s.appended) (arc_value c.args.command))) (sym c.self.view_is) c.requires.next in
    let r = next-room g.J.Centre.base c.self.inside.appended.log (arc_value c.args.command) c.self.inside.count i.3 i.4 next in
    omega arith

pub overflow_add-self : goal.overflow_add-self
overflow_add-self g c =
    let i = c.self.invariant in
    let next : IsTrue (accepts (after g.J.Centre.base c.self.inside.appended.log) (arc_value c.args.command)) =
    subst (λ (s : PublisherView). IsTrue (accepts (after g.J.Centre.base s.appended) (arc_value c.args.command))) (sym c.self.view_is) c.requires.next in
    let r = next-room g.J.Centre.base c.self.inside.appended.log (arc_value c.args.command) c.self.inside.count i.3 i.4 next in
    omega arith

pub invariant_of-self-2 : goal.invariant_of-self-2
invariant_of-self-2 g c =
    let i = c.self.invariant in
    let base = g.J.Centre.base in
    let cmd = arc_value c.args.command in
    let old = c.self.inside.appended in
    let next : IsTrue (accepts (after base old.log) cmd) = subst (λ (s : PublisherView). IsTrue (accepts (after base s.appended) cmd)) (sym c.self.view_is) c.requires.next in
    let added : c.added_to_log.new.list.log ≡ old.log ++ cmd ∷ [] = c.added_to_log.ensures.added c.if-not-added_to_log.false ∙ ap (λ t. t.log ++ cmd ∷ []) c.again-list.ensures in
    let log : c.again.result.log ≡ old.log ++ cmd ∷ [] = ap (λ t. t.log) c.again.ensures ∙ added in
    let book = ap (λ t. t.book) c.again.ensures ∙ c.added_to_log.ensures.book ∙ ap (λ t. t.book) c.again-list.ensures ∙ i.1 in
    let n = length-append old.log (cmd ∷ []) in
    let m = ap length log in
    let k = i.3 in
    let items = c.push_back_reserved.ensures.items ∙ ap (λ l. l ++ record { command = c.args.command; list = c.added_to_log.new.list } ∷ []) c.reserve.ensures.items in
    let all = fold_more _ _ _ (drop c.self.inside.writer.behind c.self.inside.writer.log.items) _ _ _ items i.7 in (
      i.0,
      book,
      i.2,
      omega arith,
      subst (IsHistory base) (sym log) (history-snoc base old.log cmd i.4 next),
      i.5,
      subst (IsPrefix c.self.inside.writer.desk.shown.value.list.log) (sym log) (prefix_longer _ old.log (cmd ∷ []) i.6),
      all ∙ (λ j. ((sym (after-snoc base old.log cmd) ∙ sym (ap (after base) log)) j, sym c.again.ensures j)),
      (let a = c.reserve.ensures.capacity in let b = c.push_back_reserved.ensures.capacity in let d = i.8 in omega arith),
    )

pub returns-clause-legal : goal.returns-clause-legal
returns-clause-legal g c =
    let i = c.self.invariant in
    let base = g.J.Centre.base in
    let cmd = arc_value c.args.command in
    let old = c.self.inside.appended in
    let next : IsTrue (accepts (after base old.log) cmd) = subst (λ (s : PublisherView). IsTrue (accepts (after base s.appended) cmd)) (sym c.self.view_is) c.requires.next in
    let added : c.added_to_log.new.list.log ≡ old.log ++ cmd ∷ [] = c.added_to_log.ensures.added c.if-not-added_to_log.false ∙ ap (λ t. t.log ++ cmd ∷ []) c.again-list.ensures in
    subst (IsHistory base) (sym (ap (λ t. t.log) c.again.ensures ∙ added)) (history-snoc base old.log cmd i.4 next)
