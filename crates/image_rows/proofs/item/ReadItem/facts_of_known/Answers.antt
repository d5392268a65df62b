use Rattle.std.proofs.Common.{◌≡◌, true, subst}
use Rattle.mailbox.specs.Values.{Item}
use Rattle.mailbox.specs.Sound.{is_as_named}
use Rattle.image_rows.specs.ItemViews.{item_view}
use Rattle.image_rows.proofs.Settled.{still_known}
use Rattle.image_rows.proofs.item.ReadItem.facts_of_known.Goals as goal

pub returns : goal.returns
returns c =
    subst (λ (w : Item). is_as_named w ≡ true) c.self.view_is (still_known (item_view c.self.inside.item) c.self.invariant.0)
