use Rattle.std.proofs.Common.{rules}
use Rattle.group_attach.specs.Attached.{pair_cmp, pair_of}
use Rattle.std.proofs.lemmas.Fn.{always_returns_same}
use Rattle.group_attach.proofs.list.search.Goals as goal

pub returns-clause-place : goal.returns-clause-place
returns-clause-place c = c.binary_search_by.ensures.position (λ a. pair_cmp (pair_of a) (c.args.itsi, c.args.gtsi)) (always_returns_same _ _ _ (λ a r f' called. search rules))
