use Rattle.std.proofs.Common.{◌≡◌, ◌<◌, ◌+◌, ◌++◌, ◌∷◌, [], false, length, sym, ap, subst, ◌∙◌, arith}
use Rattle.std.specs.Prelude.{IsTrue}
use Rattle.identity.specs.Path.{Path, begins}
use Rattle.std.specs.FinMap as map
use Rattle.prefix_tree.specs.Visits.{visits_beyond}
use Rattle.prefix_tree.proofs.Begins.{begins_whole}
use Rattle.prefix_tree.proofs.NodeLaws.{at_is, none_there, off_there, on_there, longer_there, same_at}
use Rattle.prefix_tree.proofs.StepLaws.{none_visits, off_visits, on_visits, sound_there}
use Rattle.prefix_tree.proofs.VisitLaws.{visits_done}
use Rattle.prefix_tree.proofs.node.Node.get.Goals as goal

pub returns-in_default-clause-value : goal.returns-in_default-clause-value
returns-in_default-clause-value g c =
    let at = at_is c.here.inside _ c.here.view_is in
    let side : IsTrue (begins (c.loop-here.here.now.at ++ c.side.result ∷ []) c.args.key.now) = subst (λ (p : Path). IsTrue (begins (p ++ c.side.result ∷ []) c.args.key.now)) at c.side.ensures in
    sym (sym c.loop-here.invariant.2 ∙ none_there c.loop-here.here.now _ _ _ side c.below.ensures.under c.below.ensures.table c.in_default.is)

pub returns-in_default-clause-cost : goal.returns-in_default-clause-cost
returns-in_default-clause-cost g c =
    let at = at_is c.here.inside _ c.here.view_is in
    let side : IsTrue (begins (c.loop-here.here.now.at ++ c.side.result ∷ []) c.args.key.now) = subst (λ (p : Path). IsTrue (begins (p ++ c.side.result ∷ []) c.args.key.now)) at c.side.ensures in
    let none : visits_beyond c.loop-here.here.now.table c.loop-here.here.now.at c.args.key.now ≡ 0 =
    none_visits c.loop-here.here.now _ _ _ side c.below.ensures.under c.below.ensures.table c.in_default.is in
    omega (arith, none, c.loop-here.invariant.3)

pub returns-then-not-begins-clause-value : goal.returns-then-not-begins-clause-value
returns-then-not-begins-clause-value g c =
    let at = at_is c.here.inside _ c.here.view_is in
    let side : IsTrue (begins (c.loop-here.here.now.at ++ c.side.result ∷ []) c.args.key.now) = subst (λ (p : Path). IsTrue (begins (p ++ c.side.result ∷ []) c.args.key.now)) at c.side.ensures in
    let low = at_is c.behind-node.inside _ c.behind-node.view_is in
    let off : begins c.deref.result.now.at c.args.key.now ≡ false = ap (λ p. begins p c.args.key.now) (sym low) ∙ sym c.begins.ensures ∙ c.if-not-begins.true in
    sym (sym c.loop-here.invariant.2 ∙ off_there c.loop-here.here.now _ _ _ side c.below.ensures.under c.below.ensures.table _ _ c.in-Some.is c.deref.ensures off)

pub returns-then-not-begins-clause-cost : goal.returns-then-not-begins-clause-cost
returns-then-not-begins-clause-cost g c =
    let at = at_is c.here.inside _ c.here.view_is in
    let side : IsTrue (begins (c.loop-here.here.now.at ++ c.side.result ∷ []) c.args.key.now) = subst (λ (p : Path). IsTrue (begins (p ++ c.side.result ∷ []) c.args.key.now)) at c.side.ensures in
    let low = at_is c.behind-node.inside _ c.behind-node.view_is in
    let off : begins c.deref.result.now.at c.args.key.now ≡ false = ap (λ p. begins p c.args.key.now) (sym low) ∙ sym c.begins.ensures ∙ c.if-not-begins.true in
    let one : visits_beyond c.loop-here.here.now.table c.loop-here.here.now.at c.args.key.now ≡ 1 =
    off_visits c.loop-here.here.now _ _ _ side c.below.ensures.under c.below.ensures.table _ _ c.in-Some.is c.deref.ensures off in
    omega (arith, one, c.loop-here.invariant.3, c.tick-in-loop-here.ensures)

pub loop-here-smaller : goal.loop-here-smaller
loop-here-smaller g c =
    let at = at_is c.here.inside _ c.here.view_is in
    let same : length c.here.inside.at ≡ length c.loop-here.here.now.at = ap length at in
    let side : IsTrue (begins (c.loop-here.here.now.at ++ c.side.result ∷ []) c.args.key.now) = subst (λ (p : Path). IsTrue (begins (p ++ c.side.result ∷ []) c.args.key.now)) at c.side.ensures in
    let longer : length c.loop-here.here.now.at < length c.deref-here.result.now.at =
    longer_there c.loop-here.here.now _ _ _ side c.below.ensures.under c.below.ensures.table _ _ c.in-Some.is c.deref-here.ensures in
    omega (arith, longer, same, c.loop-here-test.true, c.len.ensures.value, c.len-in-loop-here.ensures.value)

pub loop-here-preserved : goal.loop-here-preserved
loop-here-preserved g c =
    let at = at_is c.here.inside _ c.here.view_is in
    let side : IsTrue (begins (c.loop-here.here.now.at ++ c.side.result ∷ []) c.args.key.now) = subst (λ (p : Path). IsTrue (begins (p ++ c.side.result ∷ []) c.args.key.now)) at c.side.ensures in
    let low = at_is c.behind-node.inside _ c.behind-node.view_is in
    let on : IsTrue (begins c.deref-here.result.now.at c.args.key.now) =
    same_at c.deref.result.now c.deref-here.result.now _ c.deref.ensures c.deref-here.ensures c.args.key.now ∙
    ap (λ p. begins p c.args.key.now) (sym low) ∙ sym c.begins.ensures ∙ c.if-not-begins.false in
    let more : visits_beyond c.loop-here.here.now.table c.loop-here.here.now.at c.args.key.now ≡ 1 + visits_beyond c.deref-here.result.now.table
    c.deref-here.result.now.at c.args.key.now = on_visits c.loop-here.here.now _ _ _ side c.below.ensures.under c.below.ensures.table _ _
    c.in-Some.is c.deref-here.ensures on in (
      on,
      sound_there c.loop-here.here.now _ _ _ side c.below.ensures.under c.below.ensures.table _ _ c.in-Some.is c.deref-here.ensures,
      on_there c.loop-here.here.now _ _ _ side c.below.ensures.under c.below.ensures.table _ _ c.in-Some.is c.deref-here.ensures ∙ c.loop-here.invariant.2,
      omega (arith, more, c.loop-here.invariant.3, c.tick-in-loop-here.ensures),
    )

pub returns-clause-value : goal.returns-clause-value
returns-clause-value g c =
    let at = at_is c.here.inside _ c.here.view_is in
    let same : length c.here.inside.at ≡ length c.loop-here.here.now.at = ap length at in
    let whole : c.loop-here.here.now.at ≡ c.args.key.now =
    begins_whole _ _ c.loop-here.invariant.0 (omega (arith, same, c.loop-here-test.false, c.len.ensures.value, c.len-in-loop-here.ensures.value))
    in
    c.own.ensures ∙ ap (map.get c.loop-here.here.now.table) whole ∙ c.loop-here.invariant.2

pub returns-clause-cost : goal.returns-clause-cost
returns-clause-cost g c =
    let at = at_is c.here.inside _ c.here.view_is in
    let same : length c.here.inside.at ≡ length c.loop-here.here.now.at = ap length at in
    let done : visits_beyond c.loop-here.here.now.table c.loop-here.here.now.at c.args.key.now ≡ 0 =
    visits_done c.loop-here.here.now _ (omega (arith, same, c.loop-here-test.false, c.len.ensures.value, c.len-in-loop-here.ensures.value)) in
    omega (arith, done, c.loop-here.invariant.3)
