use Rattle.std.proofs.Common.{ap, ◌∙◌, length}
use Rattle.std.specs.Prelude.{◌==◌}
use Rattle.group_attach.proofs.Filtered.{length_listed}
use Rattle.group_attach.proofs.attachments.AttachmentList.is_empty.Goals as goal

pub returns : goal.returns
returns g c = c.is_empty.ensures ∙ ap (λ l. length l == 0) c.as_slice.ensures.items ∙ ap (λ n. n == 0) (length_listed c.args.self.now)
