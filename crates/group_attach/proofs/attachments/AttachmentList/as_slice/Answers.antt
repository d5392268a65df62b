use Rattle.std.proofs.Common.{ap, sym, ◌∙◌}
use Rattle.group_attach.specs.Attached.{listed}
use Rattle.group_attach.proofs.Filtered.{listed_map}
use Rattle.group_attach.proofs.attachments.AttachmentList.as_slice.Goals as goal

pub returns-clause-items : goal.returns-clause-items
returns-clause-items g c = c.deref.ensures.value ∙ sym (listed_map c.self.inside.entries.items c.self.invariant) ∙ ap listed c.self.view_is
