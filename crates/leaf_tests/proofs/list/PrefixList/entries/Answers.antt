use Rattle.std.proofs.Common.{◌∙◌}
use Rattle.leaf_tests.proofs.Places.{entries_in_order, copied_entries}
use Rattle.leaf_tests.proofs.list.PrefixList.entries.Goals as goal

pub returns : goal.returns
returns g c = copied_entries c.copied.result (λ list. list.items) c.copied.ensures (c.deref.ensures.value ∙ entries_in_order c.self.inside.entries.items _ c.self.view_is c.self.invariant)
