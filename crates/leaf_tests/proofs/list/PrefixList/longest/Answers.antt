use Rattle.leaf_tests.proofs.LastLongest.{last_gives}
use Rattle.leaf_tests.proofs.list.PrefixList.longest.Goals as goal

pub returns-in-Some : goal.returns-in-Some
returns-in-Some g c = last_gives c.self.inside.entries.items _ _ _ _ c.self.view_is c.self.invariant c.deref.ensures.value c.in-Some.ensures

pub returns-in-None : goal.returns-in-None
returns-in-None g c = last_gives c.self.inside.entries.items _ _ _ _ c.self.view_is c.self.invariant c.deref.ensures.value c.in-None.ensures
