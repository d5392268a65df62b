use Rattle.std.proofs.Common.{rules}
use Rattle.identity.specs.Path.{path_cmp}
use Rattle.std.proofs.lemmas.Fn.{always_returns_same}
use Rattle.leaf_tests.proofs.list.place.Goals as goal

pub returns-clause-place : goal.returns-clause-place
returns-clause-place g c = c.binary_search_by.ensures.position (λ e. path_cmp e.0 c.args.prefix.now) (always_returns_same _ _ _ (λ a r f' called. search rules))
