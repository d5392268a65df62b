use Rattle.std.proofs.Common.{ap, ◌∙◌}
use Rattle.leaf_tests.specs.PrefixList.{map_of}
use Rattle.leaf_tests.proofs.Places.{map_of_nothing}
use Rattle.leaf_tests.proofs.list.PrefixList.new_in.Goals as goal

pub returns : goal.returns
returns g c = ap map_of c.new.ensures.items ∙ map_of_nothing _
