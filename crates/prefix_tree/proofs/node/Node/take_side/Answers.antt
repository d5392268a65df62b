use Rattle.std.proofs.Common.{sym, ap, subst, ◌∙◌}
use Rattle.prefix_tree.specs.Inside.Around.{table_of, IsUnder}
use Rattle.prefix_tree.proofs.JoinLaws.{none_test, only_zero, only_one, zero_up, one_up}
use Rattle.prefix_tree.proofs.node.Node.take_side.Goals as goal

pub returns-then-is_none-clause-table : goal.returns-then-is_none-clause-table
returns-then-is_none-clause-table g c = ap table_of c.take.ensures.value ∙
    only_zero c.self.inside _ c.self.view_is c.requires.sound c.requires.lone (none_test _ _ _ c.is_none.ensures c.if-is_none.true)

pub returns-then-is_none-clause-under : goal.returns-then-is_none-clause-under
returns-then-is_none-clause-under g c p loose = subst (λ z. IsUnder p z) (sym c.take.ensures.value) (zero_up c.self.inside _ c.self.view_is c.requires.sound c.requires.lone p loose)

pub returns-else-is_none-clause-table : goal.returns-else-is_none-clause-table
returns-else-is_none-clause-table g c = ap table_of c.take-else-is_none.ensures.value ∙
    only_one c.self.inside _ c.self.view_is c.requires.sound c.requires.lone (none_test _ _ _ c.is_none.ensures c.if-is_none.false)

pub returns-else-is_none-clause-under : goal.returns-else-is_none-clause-under
returns-else-is_none-clause-under g c p loose = subst (λ z. IsUnder p z) (sym c.take-else-is_none.ensures.value) (one_up c.self.inside _ c.self.view_is c.requires.sound c.requires.lone p loose)
