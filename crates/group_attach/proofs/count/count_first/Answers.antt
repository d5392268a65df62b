use Rattle.std.proofs.Common.{◌∙◌}
use Rattle.std.specs.Prelude.{◌==◌}
use Rattle.group_attach.proofs.Filtered.{length_part}
use Rattle.group_attach.proofs.count.count_first.Goals as goal

pub returns-in-Amendment-clause-count : goal.returns-in-Amendment-clause-count
returns-in-Amendment-clause-count c = rw c.in-Amendment.is (c.count_of.ensures.count ∙ length_part (λ pair. pair.0 == c.args.itsi) c.args.entries.now c.requires)
