use Rattle.std.proofs.Common.{◌≡◌, drop}
use Rattle.std.specs.Prelude.{map as each}
use Rattle.std.specs.Ordering.{nat_cmp}
use Rattle.std.specs.FinMap as map
use Rattle.image_rows.specs.RowText.{group_in}
use Rattle.image_rows.proofs.Filling.{rising}
use Rattle.image_rows.proofs.attached.is_in_order.Given as goal

abbrev pub invariant-loop-attachment : goal.invariant-loop-attachment
invariant-loop-attachment l = map.is_sorted nat_cmp (each group_in l.attachments) ≡ rising l.last (each group_in (drop l.attachment-index l.attachments))
