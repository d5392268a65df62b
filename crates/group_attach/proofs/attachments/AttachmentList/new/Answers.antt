use Rattle.std.proofs.Common.{ap, ◌∙◌}
use Rattle.group_attach.specs.Inside.ListedMap.{map_of}
use Rattle.group_attach.proofs.Filtered.{map_of_nothing}
use Rattle.group_attach.proofs.attachments.AttachmentList.new.Goals as goal

pub returns : goal.returns
returns g c = ap map_of c.new.ensures.items ∙ map_of_nothing
