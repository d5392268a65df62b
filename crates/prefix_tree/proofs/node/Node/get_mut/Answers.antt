use Rattle.std.proofs.Common.{◌≡◌, refl, sym, length, ap, ◌∙◌, arith}
use Rattle.std.proofs.lemmas.Bool.Decides.{nat_tests}
use Rattle.std.specs.FinMap as map
use Rattle.prefix_tree.specs.Visits.{visits_beyond}
use Rattle.prefix_tree.specs.Inside.Around.{NodeModel}
use Rattle.prefix_tree.proofs.NodeLaws.{at_is, whole_key, longer_key}
use Rattle.prefix_tree.proofs.VisitLaws.{visits_done}
use Rattle.prefix_tree.proofs.BorrowLaws.{if_at, on_some, at_end, graft_insert, graft_like, graft_same}
use Rattle.prefix_tree.proofs.node.Node.get_mut.Goals as goal

pub returns-then-len : goal.returns-then-len
returns-then-len g c =
    let whole = whole_key c.self.inside _ c.self.view_is c.args.key.now c.requires.within (sym c.len.ensures.value ∙ c.if-len.true ∙ c.len-2.ensures.value) in
    let done : visits_beyond c.args.self.now.table c.args.self.now.at c.args.key.now ≡ 0 = visits_done c.args.self.now _ (let e = ap length whole in omega (arith, e)) in (
      (
        refl,
        λ w. (on_some c.own_mut.result (λ e. e ∙ ap (λ p. map.insert c.args.self.now.table p w) (sym whole)) (c.own_mut.follows.holds w).0, (c.own_mut.follows.holds w).1),
        c.own_mut.follows.holds-at-none,
      ),
      record {
        writes_back = tt;
        value = c.own_mut.ensures.value ∙ ap (map.get c.args.self.now.table) (sym whole);
        cost = omega (arith, done, c.tick.ensures);
      },
    )

pub down_64-requires-clause-longer : goal.down_64-requires-clause-longer
down_64-requires-clause-longer g c =
    let longer = longer_key c.self.inside _ c.self.view_is c.args.key.now c.requires.within
    (λ same. grind (arith, nat_tests, c.if-len.false, c.len.ensures.value ∙ same ∙ sym c.len-2.ensures.value)) in
    let same : length c.self.inside.at ≡ length c.args.self.now.at = ap length (at_is c.self.inside _ c.self.view_is) in
    omega (arith, longer, same)

pub returns : goal.returns
returns g c =
    let key = c.args.key.now in
    let link = c.in_ok-down_64.field-0.now in
    let on = c.in_ok-down_64.ensures.on_way in
    let low = c.inside.ensures.value in
    let end = at_end _ _ _ on 64 (omega (arith, c.len-2.ensures.value, c.len-2.ensures.at_most_48)) c.in_ok-down_64.ensures.far in
    let at = ap (λ (x : NodeModel _). x.at) low ∙ end in
    let done : visits_beyond link.value.table link.value.at key ≡ 0 = visits_done link.value _ (let e = ap length end in omega (arith, e)) in
    let next = c.own_mut-2.follows in
    let ends : (n : _) → _ = λ n. if_at _ c.down_64.result _ c.in_ok-down_64.was (c.down_64.follows.holds (record link { value = n })) in (
      (
        refl,
        λ w. (
          on_some c.own_mut-2.result
              (λ e. graft_insert _ _ _ _ (next.lender w) _ on low (ends (next.lender w)) key w at (next.holds w).1
              (e ∙ ap (λ p. map.insert c.inside.result.now.table p w) at)) (next.holds w).0,
          graft_like _ _ _ _ (next.lender w) _ on low (ends (next.lender w)) (next.holds w).1,
        ),
        graft_same _ _ _ _ next.lender-at-none _ on low (ends next.lender-at-none) next.holds-at-none,
      ),
      record {
        writes_back = tt;
        value = c.own_mut-2.ensures.value ∙ (λ i. map.get (low i).table (at i)) ∙ sym (on.same key on.leads);
        cost = omega (arith, done, c.tick.ensures, c.in_ok-down_64.ensures.cost);
      },
    )
