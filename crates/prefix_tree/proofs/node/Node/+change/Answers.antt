use Rattle.std.proofs.Common.{◌≡◌, None, refl, [], true, false, length, sym, ap, ◌∙◌, arith, rules}
use Rattle.std.proofs.lemmas.Bool.Decides.{nat_tests}
use Rattle.prefix_tree.specs.Inside.Around.{IsUnder}
use Rattle.prefix_tree.proofs.NodeLaws.{fits, whole_key, longer_key, side_is, read_at, read_zero, read_one, off_link, on_link, firm_node, begins_box, remove_absent}
use Rattle.prefix_tree.proofs.ChangeLaws.{changed_here, changed_zero, changed_one, loose_changed}
use Rattle.prefix_tree.specs.Visits.{visits_beyond}
use Rattle.prefix_tree.proofs.VisitLaws.{visits_done}
use Rattle.prefix_tree.proofs.StepLaws.{zero_any, one_any, still_sound, sound_with_zero, sound_with_one, visits_zero, visits_one, visits_on, visits_off, some_one}
use Rattle.prefix_tree.proofs.node.Node.+change.Goals as goal

pub change-returns-then-len-clause-changed : goal.change-returns-then-len-clause-changed
change-returns-then-len-clause-changed g t c =
    let whole = whole_key c.self.inside _ c.self.view_is c.args.key.now c.requires.within (sym c.len.ensures.value ∙ c.if-len.true ∙ c.len-2.ensures.value) in (
      c.apply.new.value,
      changed_here c.self.inside _ c.self.view_is c.requires.sound _ _ whole,
      rw (read_at c.self.inside _ c.self.view_is c.requires.sound _ whole) c.apply.ensures,
    )

pub change-side-requires-clause-shorter : goal.change-side-requires-clause-shorter
change-side-requires-clause-shorter g t c =
    longer_key c.self.inside _ c.self.view_is c.args.key.now c.requires.within (λ same. grind (arith, nat_tests, c.if-len.false, c.len.ensures.value ∙ same ∙ sym c.len-2.ensures.value))

pub change-returns-then-len-clause-sound : goal.change-returns-then-len-clause-sound
change-returns-then-len-clause-sound g t c = still_sound c.self.inside _ c.self.view_is c.requires.sound

pub change-returns-then-len-clause-cost : goal.change-returns-then-len-clause-cost
change-returns-then-len-clause-cost g t c =
    let whole = whole_key c.self.inside _ c.self.view_is c.args.key.now c.requires.within (sym c.len.ensures.value ∙ c.if-len.true ∙ c.len-2.ensures.value) in
    let done : visits_beyond c.args.self.now.table c.args.self.now.at c.args.key.now ≡ 0 = visits_done c.args.self.now _ (let e = ap length whole in omega (arith, e)) in
    omega (arith, done)

pub change-change_below-requires : goal.change-change_below-requires
change-change_below-requires g t c κs within = let under : IsUnder [] c.self.inside.one = one_any c.self.inside _ c.self.view_is c.requires.sound in search (rules)

pub change-change_below-requires-else-side : goal.change-change_below-requires-else-side
change-change_below-requires-else-side g t c κs within = let under : IsUnder [] c.self.inside.zero = zero_any c.self.inside _ c.self.view_is c.requires.sound in search (rules)

pub change-returns-then-side-clause-sound : goal.change-returns-then-side-clause-sound
change-returns-then-side-clause-sound g t c = sound_with_one c.self.inside _ c.self.view_is c.requires.sound _ (c.change_below.ensures.under _ (fits c.self.inside _ c.self.view_is c.requires.sound).1)

pub change-returns-else-side-clause-sound : goal.change-returns-else-side-clause-sound
change-returns-else-side-clause-sound g t c =
    sound_with_zero c.self.inside _ c.self.view_is c.requires.sound _
    (c.change_below-else-side.ensures.under _ (fits c.self.inside _ c.self.view_is c.requires.sound).0)

pub change-returns-then-side-clause-cost : goal.change-returns-then-side-clause-cost
change-returns-then-side-clause-cost g t c =
    let side = side_is c.self.inside _ c.self.view_is c.args.key.now c.requires.within _ true c.if-side.true c.side.ensures in
    let step = visits_one c.self.inside _ c.self.view_is c.requires.sound _ side in
    omega (arith, step, c.change_below.ensures.cost)

pub change-returns-else-side-clause-cost : goal.change-returns-else-side-clause-cost
change-returns-else-side-clause-cost g t c =
    let side = side_is c.self.inside _ c.self.view_is c.args.key.now c.requires.within _ false c.if-side.false c.side.ensures in
    let step = visits_zero c.self.inside _ c.self.view_is c.requires.sound _ side in
    omega (arith, step, c.change_below-else-side.ensures.cost)

pub change_below-returns-then-not-visit-clause-cost : goal.change_below-returns-then-not-visit-clause-cost
change_below-returns-then-not-visit-clause-cost g t c =
    let off = visits_off c.args.link.now c.args.key.now (sym c.visit.ensures.value ∙ c.if-not-visit.true) in omega (arith, off, c.visit.ensures.cost)

pub change_below-join-requires : goal.change_below-join-requires
change_below-join-requires g t c =
    loose_changed [] _ c.change-answer.new.self c.args.key.now _ (firm_node [] _ c.in-Some.node _ c.in-Some.is c.deref_mut.ensures.value c.requires.under)
    (begins_box _ _ _ c.deref_mut.ensures.value (on_link _ _ c.in-Some.node c.in-Some.is (sym c.visit.ensures.value ∙ c.if-not-visit.false)))
    c.change-answer.ensures.at c.change-answer.ensures.changed.1 c.change-answer.ensures.sound

pub change_below-returns-clause-under : goal.change_below-returns-clause-under
change_below-returns-clause-under g t c p under =
    c.join.ensures.under p (loose_changed p _ c.change-answer.new.self c.args.key.now _ (firm_node p _ c.in-Some.node _ c.in-Some.is c.deref_mut.ensures.value under)
    (begins_box _ _ _ c.deref_mut.ensures.value (on_link _ _ c.in-Some.node c.in-Some.is (sym c.visit.ensures.value ∙ c.if-not-visit.false)))
    c.change-answer.ensures.at c.change-answer.ensures.changed.1 c.change-answer.ensures.sound)

pub change_below-returns-clause-cost : goal.change_below-returns-clause-cost
change_below-returns-clause-cost g t c =
    let on = visits_on c.args.link.now c.args.key.now c.in-Some.node c.deref_mut.result.now c.in-Some.is c.deref_mut.ensures.value (sym c.visit.ensures.value ∙ c.if-not-visit.false) in
    let one = some_one c.args.link.now c.in-Some.node c.in-Some.is in
    omega (arith, on, one, c.visit.ensures.cost, c.change-answer.ensures.cost)

pub change-returns-then-side-clause-changed : goal.change-returns-then-side-clause-changed
change-returns-then-side-clause-changed g t c =
    let side = side_is c.self.inside _ c.self.view_is c.args.key.now c.requires.within _ true c.if-side.true c.side.ensures in (
      c.change_below.ensures.changed.0,
      changed_one c.self.inside _ c.self.view_is c.requires.sound _ _ _ side c.change_below.ensures.changed.1,
      rw (read_one c.self.inside _ c.self.view_is c.requires.sound _ side) c.change_below.ensures.changed.2,
    )

pub change-returns-else-side-clause-changed : goal.change-returns-else-side-clause-changed
change-returns-else-side-clause-changed g t c =
    let side = side_is c.self.inside _ c.self.view_is c.args.key.now c.requires.within _ false c.if-side.false c.side.ensures in (
      c.change_below-else-side.ensures.changed.0,
      changed_zero c.self.inside _ c.self.view_is c.requires.sound _ _ _ side c.change_below-else-side.ensures.changed.1,
      rw (read_zero c.self.inside _ c.self.view_is c.requires.sound _ side) c.change_below-else-side.ensures.changed.2,
    )

pub change_below-returns-then-not-visit-clause-changed : goal.change_below-returns-then-not-visit-clause-changed
change_below-returns-then-not-visit-clause-changed g t c =
    let none = off_link _ _ _ c.requires.under (sym c.visit.ensures.value ∙ c.if-not-visit.true) in (
      None,
      sym (remove_absent _ _ none),
      rw none (refl, refl),
    )
