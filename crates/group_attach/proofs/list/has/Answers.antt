use Rattle.std.proofs.Common.{refl, ◌∙◌}
use Rattle.group_attach.proofs.Places.{has_at}
use Rattle.group_attach.proofs.list.has.Goals as goal

pub returns : goal.returns
returns c = c.is_ok.ensures.value ∙ has_at c.args.entries.now _ _ _ refl c.requires c.place.ensures.within c.place.ensures.place
