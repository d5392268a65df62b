use Rattle.std.proofs.Common.{sym}
use Rattle.std.specs.Prelude.{map as each}
use Rattle.image_rows.specs.RowText.{group_in}
use Rattle.image_rows.proofs.Filling.{rises}
use Rattle.image_rows.proofs.attached.is_in_order.Goals as goal

pub loop-attachment-init : goal.loop-attachment-init
loop-attachment-init c = sym (rises (each group_in c.args.attachments.now))
