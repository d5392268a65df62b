use Rattle.std.proofs.Common.{ap, sym, ◌∙◌}
use Rattle.std.specs.Option.{option_copied}
use Rattle.group_attach.specs.Attached.{listed}
use Rattle.group_attach.specs.Inside.Filed.{held}
use Rattle.group_attach.proofs.IndexFacts.{nothing_listed}
use Rattle.group_attach.proofs.attachments.slice_of.Goals as goal

pub returns-in-None-clause-items : goal.returns-in-None-clause-items
returns-in-None-clause-items g c = nothing_listed ∙ ap (λ o. listed (held (option_copied o))) (sym c.in-None.is)
