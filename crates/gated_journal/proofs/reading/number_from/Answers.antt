use Rattle.std.proofs.Common.{◌∙◌}
use Rattle.gated_journal.proofs.Steps.{number_in}
use Rattle.gated_journal.proofs.reading.number_from.Goals as goal

pub returns : goal.returns
returns c = c.from.ensures ∙ c.get_u32.ensures.value ∙ number_in c.args.at c.args.bytes.now c.requires
