use Rattle.console.proofs.Lowest.{lowest_gone, others_kept, none_added}
use Rattle.console.proofs.spaces.take_first.Goals as goal

pub returns-clause-kept : goal.returns-clause-kept
returns-clause-kept c = others_kept c.args.marks c.first_of.result c.first_of.ensures.set c.first_of.ensures.below

pub returns-clause-gone : goal.returns-clause-gone
returns-clause-gone c = lowest_gone c.args.marks c.first_of.result c.first_of.ensures.set c.first_of.ensures.below

pub returns-clause-no_more : goal.returns-clause-no_more
returns-clause-no_more c = none_added c.args.marks
