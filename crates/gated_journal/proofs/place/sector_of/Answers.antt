use Rattle.std.proofs.Common.{◌∙◌}
use Rattle.gated_journal.proofs.Cut.{cut_is}
use Rattle.gated_journal.proofs.place.sector_of.Goals as goal

pub returns : goal.returns
returns c = c.padded.ensures ∙ cut_is c.args.text.now c.args.k c.min-begin.result c.min-end.result c.min-begin.ensures c.min-end.ensures
