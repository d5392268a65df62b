use Rattle.std.proofs.Common.{sym}
use Rattle.mm_pdus.proofs.ItemLaws.{still_fits}
use Rattle.mm_pdus.proofs.items.GroupItems.add.Goals as goal

pub invariant_of-self : goal.invariant_of-self
invariant_of-self g c = still_fits 32 _ c.args.self.now c.self.inside.items.items c.push.new.self.items c.args.item (sym c.self.view_is) c.push.ensures.items c.requires
