use Rattle.std.proofs.Common.{true, false, refl, sym, ◌∙◌, arith}
use Rattle.prefix_tree.proofs.NodeLaws.{table_is, side_is, read_zero, read_one, zero_under, one_under, off_link}
use Rattle.prefix_tree.proofs.StepLaws.{visits_zero, visits_one, visits_off}
use Rattle.prefix_tree.proofs.BorrowLaws.{same_like, none_never, way_far, zero_borrowed, one_borrowed, zero_ways, one_ways, step_cost}
use Rattle.prefix_tree.proofs.node.Node.down_1.Goals as goal

pub returns-then-not-visit : goal.returns-then-not-visit
returns-then-not-visit g c =
    let side = side_is c.self.inside _ c.self.view_is c.args.key.now c.requires.within _ true c.if-side.true c.side.ensures in
    let step = visits_one c.self.inside _ c.self.view_is c.requires.sound _ side in
    let off = sym c.visit.ensures.value ∙ c.if-not-visit.true in
    let one = visits_off c.self.inside.one c.args.key.now off in (
      (refl, λ w. tt, (table_is c.self.inside _ c.self.view_is, same_like c.self.inside _ c.self.view_is c.requires.sound)),
      record {
        writes_back = tt;
        on_way = tt;
        far = tt;
        none = read_one c.self.inside _ c.self.view_is c.requires.sound _ side ∙ off_link _ _ c.self.inside.one (one_under c.self.inside _ c.self.view_is c.requires.sound) off;
        cost = tt;
        cost_of_none = omega (arith, step, one, c.visit.ensures.cost);
      },
    )

pub returns-else-not-visit : goal.returns-else-not-visit
returns-else-not-visit g c =
    let side = side_is c.self.inside _ c.self.view_is c.args.key.now c.requires.within _ true c.if-side.true c.side.ensures in
    let step = visits_one c.self.inside _ c.self.view_is c.requires.sound _ side in
    let on = sym c.visit.ensures.value ∙ c.if-not-visit.false in
    let ways = one_ways c.self.inside _ c.self.view_is c.requires.sound c.as_mut.result c.args.key.now c.as_mut.ensures.value on in (
      (
        refl,
        λ w. one_borrowed c.self.inside _ c.self.view_is c.requires.sound c.as_mut.result c.as_mut.ensures.value w,
        (table_is c.self.inside _ c.self.view_is, same_like c.self.inside _ c.self.view_is c.requires.sound),
      ),
      record {
        writes_back = tt;
        on_way = ways;
        far = way_far _ _ _ ways;
        none = none_never _ c.as_mut.result _ _ c.as_mut.ensures.value on;
        cost = step_cost c.self.inside _ c.self.view_is c.requires.sound c.as_mut.result c.args.key.now c.self.inside.one _ _ c.as_mut.ensures.value on step c.visit.ensures.cost;
        cost_of_none = none_never _ c.as_mut.result _ _ c.as_mut.ensures.value on;
      },
    )

pub returns-then-not-visit-2 : goal.returns-then-not-visit-2
returns-then-not-visit-2 g c =
    let side = side_is c.self.inside _ c.self.view_is c.args.key.now c.requires.within _ false c.if-side.false c.side.ensures in
    let step = visits_zero c.self.inside _ c.self.view_is c.requires.sound _ side in
    let off = sym c.visit-else-side.ensures.value ∙ c.if-not-visit-2.true in
    let one = visits_off c.self.inside.zero c.args.key.now off in (
      (refl, λ w. tt, (table_is c.self.inside _ c.self.view_is, same_like c.self.inside _ c.self.view_is c.requires.sound)),
      record {
        writes_back = tt;
        on_way = tt;
        far = tt;
        none = read_zero c.self.inside _ c.self.view_is c.requires.sound _ side ∙ off_link _ _ c.self.inside.zero (zero_under c.self.inside _ c.self.view_is c.requires.sound) off;
        cost = tt;
        cost_of_none = omega (arith, step, one, c.visit-else-side.ensures.cost);
      },
    )

pub returns-else-not-visit-2 : goal.returns-else-not-visit-2
returns-else-not-visit-2 g c =
    let side = side_is c.self.inside _ c.self.view_is c.args.key.now c.requires.within _ false c.if-side.false c.side.ensures in
    let step = visits_zero c.self.inside _ c.self.view_is c.requires.sound _ side in
    let on = sym c.visit-else-side.ensures.value ∙ c.if-not-visit-2.false in
    let ways = zero_ways c.self.inside _ c.self.view_is c.requires.sound c.as_mut-else-side.result c.args.key.now c.as_mut-else-side.ensures.value on in (
      (
        refl,
        λ w. zero_borrowed c.self.inside _ c.self.view_is c.requires.sound c.as_mut-else-side.result c.as_mut-else-side.ensures.value w,
        (table_is c.self.inside _ c.self.view_is, same_like c.self.inside _ c.self.view_is c.requires.sound),
      ),
      record {
        writes_back = tt;
        on_way = ways;
        far = way_far _ _ _ ways;
        none = none_never _ c.as_mut-else-side.result _ _ c.as_mut-else-side.ensures.value on;
        cost = step_cost c.self.inside _ c.self.view_is c.requires.sound c.as_mut-else-side.result c.args.key.now c.self.inside.zero _ _
            c.as_mut-else-side.ensures.value on step c.visit-else-side.ensures.cost;
        cost_of_none = none_never _ c.as_mut-else-side.result _ _ c.as_mut-else-side.ensures.value on;
      },
    )
