use Rattle.identity.proofs.ShortTexts.{number_ends, number_fails}
use Rattle.identity.proofs.number_text.after_number.Goals as goal
use Rattle.std.proofs.Common.{rules}

pub returns-then-ends_number-clause-value : goal.returns-then-ends_number-clause-value
returns-then-ends_number-clause-value c = number_ends c.args.text.now c.args.at c.args.number c.requires.inside c.requires.digits (search rules) c.requires.number

pub returns-else-ends_number-clause-value : goal.returns-else-ends_number-clause-value
returns-else-ends_number-clause-value c = number_fails c.args.text.now c.args.at c.requires.inside c.requires.digits c.requires.end (search rules)
