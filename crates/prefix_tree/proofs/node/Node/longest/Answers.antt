use Rattle.std.proofs.Common.{◌≡◌, ◌<◌, ◌≤◌, ◌+◌, ◌++◌, ◌∷◌, [], false, length, refl, sym, ap, subst, ◌∙◌, arith}
use Rattle.std.specs.Prelude.{IsTrue}
use Rattle.std.specs.Option.{option_copied, option_map}
use Rattle.identity.specs.Path.{Path, begins}
use Rattle.prefix_tree.specs.Table.{longest_below}
use Rattle.prefix_tree.specs.Visits.{visits_beyond}
use Rattle.prefix_tree.proofs.NodeLaws.{at_is, longer_there, same_at}
use Rattle.prefix_tree.proofs.StepLaws.{none_visits, off_visits, on_visits, sound_there, same_there}
use Rattle.prefix_tree.proofs.VisitLaws.{visits_done}
use Rattle.prefix_tree.proofs.LongestLaws.{none_yet, best_own, best_stays, found_none, found_off, found_on, found_whole}
use Rattle.prefix_tree.proofs.node.Node.longest.Goals.{in-Some, in_default}
use Rattle.prefix_tree.proofs.node.Node.longest.Goals as goal

pub loop-here-init : goal.loop-here-init
loop-here-init g c = (
  ap (λ p. begins p c.args.key.now) c.requires.root,
  c.requires.sound,
  λ z on. refl,
  none_yet _ _ _ c.requires.root,
  omega (arith, c.tick.ensures),
)

pub returns-in_default-below-clause-found : goal.returns-in_default-below-clause-found
returns-in_default-below-clause-found g c =
    let at = at_is c.here.inside _ c.here.view_is in
    let side : IsTrue (begins (c.loop-here.here.now.at ++ c.side.result ∷ []) c.args.key.now) = subst (λ (p : Path). IsTrue (begins (p ++ c.side.result ∷ []) c.args.key.now)) at c.side.ensures in
    let best : option_map (λ e. (e.0, e.1.now)) c.match-own.best ≡ longest_below c.args.self.now.table c.args.key.now (length c.loop-here.here.now.at + 1) = elim c.match-own.branch [
      | in-Some w ↦ ap (option_map (λ e. (e.0, e.1.now))) w.best-is ∙
          best_own c.args.self.now.table c.args.key.now c.loop-here.here.now c.loop-here.invariant.0 c.loop-here.invariant.2 _ _ at
          (sym c.own.ensures ∙ ap option_copied w.in-Some.is)
      | in_default w ↦ ap (option_map (λ e. (e.0, e.1.now))) w.best-is ∙
          best_stays c.args.self.now.table c.args.key.now c.loop-here.here.now c.loop-here.invariant.0 c.loop-here.invariant.2 _
          (sym c.own.ensures ∙ ap option_copied w.in_default.is) c.loop-here.invariant.3
    ] in
    best ∙ found_none c.args.self.now.table c.args.key.now c.loop-here.here.now c.loop-here.invariant.0 c.loop-here.invariant.2 _ _ side
    c.below.ensures.under c.below.ensures.table c.in_default-below.is

pub returns-in_default-below-clause-cost : goal.returns-in_default-below-clause-cost
returns-in_default-below-clause-cost g c =
    let at = at_is c.here.inside _ c.here.view_is in
    let side : IsTrue (begins (c.loop-here.here.now.at ++ c.side.result ∷ []) c.args.key.now) = subst (λ (p : Path). IsTrue (begins (p ++ c.side.result ∷ []) c.args.key.now)) at c.side.ensures in
    let none : visits_beyond c.loop-here.here.now.table c.loop-here.here.now.at c.args.key.now ≡ 0 =
    none_visits c.loop-here.here.now _ _ _ side c.below.ensures.under c.below.ensures.table c.in_default-below.is in
    omega (arith, none, c.loop-here.invariant.4)

pub returns-then-not-begins-clause-found : goal.returns-then-not-begins-clause-found
returns-then-not-begins-clause-found g c =
    let at = at_is c.here.inside _ c.here.view_is in
    let side : IsTrue (begins (c.loop-here.here.now.at ++ c.side.result ∷ []) c.args.key.now) = subst (λ (p : Path). IsTrue (begins (p ++ c.side.result ∷ []) c.args.key.now)) at c.side.ensures in
    let low = at_is c.behind-node.inside _ c.behind-node.view_is in
    let off : begins c.deref.result.now.at c.args.key.now ≡ false = ap (λ p. begins p c.args.key.now) (sym low) ∙ sym c.begins.ensures ∙ c.if-not-begins.true in
    let best : option_map (λ e. (e.0, e.1.now)) c.match-own.best ≡ longest_below c.args.self.now.table c.args.key.now (length c.loop-here.here.now.at + 1) = elim c.match-own.branch [
      | in-Some w ↦ ap (option_map (λ e. (e.0, e.1.now))) w.best-is ∙
          best_own c.args.self.now.table c.args.key.now c.loop-here.here.now c.loop-here.invariant.0 c.loop-here.invariant.2 _ _ at
          (sym c.own.ensures ∙ ap option_copied w.in-Some.is)
      | in_default w ↦ ap (option_map (λ e. (e.0, e.1.now))) w.best-is ∙
          best_stays c.args.self.now.table c.args.key.now c.loop-here.here.now c.loop-here.invariant.0 c.loop-here.invariant.2 _
          (sym c.own.ensures ∙ ap option_copied w.in_default.is) c.loop-here.invariant.3
    ] in
    best ∙ found_off c.args.self.now.table c.args.key.now c.loop-here.here.now c.loop-here.invariant.0 c.loop-here.invariant.2 _ _ side
    c.below.ensures.under c.below.ensures.table _ _ c.in-Some-below.is c.deref.ensures off

pub returns-then-not-begins-clause-cost : goal.returns-then-not-begins-clause-cost
returns-then-not-begins-clause-cost g c =
    let at = at_is c.here.inside _ c.here.view_is in
    let side : IsTrue (begins (c.loop-here.here.now.at ++ c.side.result ∷ []) c.args.key.now) = subst (λ (p : Path). IsTrue (begins (p ++ c.side.result ∷ []) c.args.key.now)) at c.side.ensures in
    let low = at_is c.behind-node.inside _ c.behind-node.view_is in
    let off : begins c.deref.result.now.at c.args.key.now ≡ false = ap (λ p. begins p c.args.key.now) (sym low) ∙ sym c.begins.ensures ∙ c.if-not-begins.true in
    let one : visits_beyond c.loop-here.here.now.table c.loop-here.here.now.at c.args.key.now ≡ 1 =
    off_visits c.loop-here.here.now _ _ _ side c.below.ensures.under c.below.ensures.table _ _ c.in-Some-below.is c.deref.ensures off in
    omega (arith, one, c.loop-here.invariant.4, c.tick-in-loop-here.ensures)

pub loop-here-smaller : goal.loop-here-smaller
loop-here-smaller g c =
    let at = at_is c.here.inside _ c.here.view_is in
    let side : IsTrue (begins (c.loop-here.here.now.at ++ c.side.result ∷ []) c.args.key.now) = subst (λ (p : Path). IsTrue (begins (p ++ c.side.result ∷ []) c.args.key.now)) at c.side.ensures in
    let same : length c.here.inside.at ≡ length c.loop-here.here.now.at = ap length at in
    let longer : length c.loop-here.here.now.at < length c.deref-here.result.now.at =
    longer_there c.loop-here.here.now _ _ _ side c.below.ensures.under c.below.ensures.table _ _ c.in-Some-below.is c.deref-here.ensures in
    omega (arith, longer, same, c.loop-here-test.true, c.len.ensures.value, c.len-in-loop-here.ensures.value)

pub loop-here-preserved : goal.loop-here-preserved
loop-here-preserved g c =
    let at = at_is c.here.inside _ c.here.view_is in
    let side : IsTrue (begins (c.loop-here.here.now.at ++ c.side.result ∷ []) c.args.key.now) = subst (λ (p : Path). IsTrue (begins (p ++ c.side.result ∷ []) c.args.key.now)) at c.side.ensures in
    let low = at_is c.behind-node.inside _ c.behind-node.view_is in
    let on : IsTrue (begins c.deref-here.result.now.at c.args.key.now) =
    same_at c.deref.result.now c.deref-here.result.now _ c.deref.ensures c.deref-here.ensures c.args.key.now ∙
    ap (λ p. begins p c.args.key.now) (sym low) ∙ sym c.begins.ensures ∙ c.if-not-begins.false in
    let best : option_map (λ e. (e.0, e.1.now)) c.match-own.best ≡ longest_below c.args.self.now.table c.args.key.now (length c.loop-here.here.now.at + 1) = elim c.match-own.branch [
      | in-Some w ↦ ap (option_map (λ e. (e.0, e.1.now))) w.best-is ∙
          best_own c.args.self.now.table c.args.key.now c.loop-here.here.now c.loop-here.invariant.0 c.loop-here.invariant.2 _ _ at
          (sym c.own.ensures ∙ ap option_copied w.in-Some.is)
      | in_default w ↦ ap (option_map (λ e. (e.0, e.1.now))) w.best-is ∙
          best_stays c.args.self.now.table c.args.key.now c.loop-here.here.now c.loop-here.invariant.0 c.loop-here.invariant.2 _
          (sym c.own.ensures ∙ ap option_copied w.in_default.is) c.loop-here.invariant.3
    ] in
    let more : visits_beyond c.loop-here.here.now.table c.loop-here.here.now.at c.args.key.now ≡ 1 + visits_beyond c.deref-here.result.now.table
    c.deref-here.result.now.at c.args.key.now = on_visits c.loop-here.here.now _ _ _ side c.below.ensures.under c.below.ensures.table _ _
    c.in-Some-below.is c.deref-here.ensures on in (
      on,
      sound_there c.loop-here.here.now _ _ _ side c.below.ensures.under c.below.ensures.table _ _ c.in-Some-below.is c.deref-here.ensures,
      same_there c.loop-here.here.now _ _ _ side c.below.ensures.under c.below.ensures.table _ _ c.in-Some-below.is c.deref-here.ensures c.args.self.now.table c.loop-here.invariant.2,
      best ∙ found_on c.args.self.now.table c.args.key.now c.loop-here.here.now c.loop-here.invariant.0 c.loop-here.invariant.2 _ _ side
          c.below.ensures.under c.below.ensures.table _ _ c.in-Some-below.is c.deref-here.ensures,
      omega (arith, more, c.loop-here.invariant.4, c.tick-in-loop-here.ensures),
    )

pub returns-in-Some-own-clause-found : goal.returns-in-Some-own-clause-found
returns-in-Some-own-clause-found g c =
    let at = at_is c.here.inside _ c.here.view_is in
    let same : length c.here.inside.at ≡ length c.loop-here.here.now.at = ap length at in
    let le : length c.args.key.now ≤ length c.loop-here.here.now.at = omega (arith, same, c.loop-here-test.false, c.len.ensures.value, c.len-in-loop-here.ensures.value) in
    best_own c.args.self.now.table c.args.key.now c.loop-here.here.now c.loop-here.invariant.0 c.loop-here.invariant.2 _ _ at (sym c.own-2.ensures ∙ ap option_copied c.in-Some-own.is)
    ∙ found_whole c.args.self.now.table c.args.key.now c.loop-here.here.now c.loop-here.invariant.0 c.loop-here.invariant.2 le

pub returns-in-Some-own-clause-cost : goal.returns-in-Some-own-clause-cost
returns-in-Some-own-clause-cost g c =
    let at = at_is c.here.inside _ c.here.view_is in
    let same : length c.here.inside.at ≡ length c.loop-here.here.now.at = ap length at in
    let le : length c.args.key.now ≤ length c.loop-here.here.now.at = omega (arith, same, c.loop-here-test.false, c.len.ensures.value, c.len-in-loop-here.ensures.value) in
    let done : visits_beyond c.loop-here.here.now.table c.loop-here.here.now.at c.args.key.now ≡ 0 = visits_done c.loop-here.here.now _ le in
    omega (arith, done, c.loop-here.invariant.4)

pub returns-in-None-clause-found : goal.returns-in-None-clause-found
returns-in-None-clause-found g c =
    let at = at_is c.here.inside _ c.here.view_is in
    let same : length c.here.inside.at ≡ length c.loop-here.here.now.at = ap length at in
    let le : length c.args.key.now ≤ length c.loop-here.here.now.at = omega (arith, same, c.loop-here-test.false, c.len.ensures.value, c.len-in-loop-here.ensures.value) in
    best_stays c.args.self.now.table c.args.key.now c.loop-here.here.now c.loop-here.invariant.0 c.loop-here.invariant.2 _ (sym c.own-2.ensures ∙ ap option_copied c.in-None.is) c.loop-here.invariant.3
    ∙ found_whole c.args.self.now.table c.args.key.now c.loop-here.here.now c.loop-here.invariant.0 c.loop-here.invariant.2 le

pub returns-in-None-clause-cost : goal.returns-in-None-clause-cost
returns-in-None-clause-cost g c =
    let at = at_is c.here.inside _ c.here.view_is in
    let same : length c.here.inside.at ≡ length c.loop-here.here.now.at = ap length at in
    let le : length c.args.key.now ≤ length c.loop-here.here.now.at = omega (arith, same, c.loop-here-test.false, c.len.ensures.value, c.len-in-loop-here.ensures.value) in
    let done : visits_beyond c.loop-here.here.now.table c.loop-here.here.now.at c.args.key.now ≡ 0 = visits_done c.loop-here.here.now _ le in
    omega (arith, done, c.loop-here.invariant.4)
