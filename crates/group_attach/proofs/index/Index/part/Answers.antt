use Rattle.std.proofs.Common.{ap, ◌∙◌}
use Rattle.group_attach.specs.Attached.{listed}
use Rattle.group_attach.proofs.IndexFacts.{part_is}
use Rattle.group_attach.proofs.index.Index.part.Goals as goal

pub returns-clause-items : goal.returns-clause-items
returns-clause-items g c = c.slice_of.ensures.items ∙ ap listed (part_is g.S.Side.key c.self.inside.lists _ c.requires c.self.invariant _ c.whole.ensures _ _ c.self.view_is c.find.ensures)
