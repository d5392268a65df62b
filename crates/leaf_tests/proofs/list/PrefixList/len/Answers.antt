use Rattle.std.proofs.Common.{rules}
use Rattle.leaf_tests.proofs.Places.{len_of}
use Rattle.leaf_tests.proofs.list.PrefixList.len.Goals as goal

pub returns : goal.returns
returns g c = let e = len_of c.self.inside.entries.items _ c.self.view_is c.self.invariant in search (rules, e)
