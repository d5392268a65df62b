use Rattle.std.proofs.Common.{refl}
use Rattle.base.proofs.Options.{if_some, if_none}
use Rattle.prefix_tree.proofs.BorrowLaws.{if_at, if_both, like_self, graft_again, graft_same, way_again, far_there, still_longer, far_again, none_again, cost_again, cost_ended}
use Rattle.prefix_tree.proofs.node.Node.down_64.Goals as goal

pub returns-then-is_at : goal.returns-then-is_at
returns-then-is_at g c = (
  (refl, λ w. if_at _ c.down_32.result _ c.in_ok-link.was (c.down_32.follows.holds w), (refl, like_self _)),
  record {
    writes_back = tt;
    on_way = c.in_ok-link.ensures.on_way;
    far = far_there _ _ _ c.in_ok-link.ensures.on_way _ 64 c.is_at.ensures c.if-is_at.true;
    none = tt;
    cost = c.in_ok-link.ensures.cost;
    cost_of_none = tt;
  },
)

pub down_32-requires-2-clause-longer : goal.down_32-requires-2-clause-longer
down_32-requires-2-clause-longer g c = still_longer _ _ _ c.in_ok-link.ensures.on_way _ c.inside.ensures.value _ c.is_at.ensures c.if-is_at.false

pub returns : goal.returns
returns g c =
    let on = c.in_ok-link.ensures.on_way in
    let low = c.inside.ensures.value in
    let next = c.down_32-2.follows in
    let ends : (n : _) → _ = λ n. if_at _ c.down_32.result _ c.in_ok-link.was (c.down_32.follows.holds (record c.in_ok-link.link.now { value = n })) in (
      (
        refl,
        λ w. if_both c.down_32-2.result c.down_32-2.ensures.on_way (next.holds w) (λ l way inner like. graft_again _ _ _ _ (next.lender w) _ _ _ on low (ends (next.lender w)) way (inner like)),
        graft_same _ _ _ _ next.lender-at-none _ on low (ends next.lender-at-none) next.holds-at-none,
      ),
      record {
        writes_back = tt;
        on_way = if_some c.down_32-2.result (λ l way. way_again _ _ _ _ _ on low way) c.down_32-2.ensures.on_way;
        far = if_some c.down_32-2.result (λ l far. far_again _ _ _ on _ low 32 64 refl c.in_ok-link.ensures.far _ far) c.down_32-2.ensures.far;
        none = if_none c.down_32-2.result (none_again _ _ _ on _ low) c.down_32-2.ensures.none;
        cost = if_some c.down_32-2.result (λ l more. cost_again _ _ _ on _ low _ _ c.in_ok-link.ensures.cost _ _ more) c.down_32-2.ensures.cost;
        cost_of_none = if_none c.down_32-2.result (cost_ended _ _ _ on _ low _ _ c.in_ok-link.ensures.cost _) c.down_32-2.ensures.cost_of_none;
      },
    )
