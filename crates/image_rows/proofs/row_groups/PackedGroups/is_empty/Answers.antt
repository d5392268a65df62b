use Rattle.image_rows.proofs.GroupSteps.{is_none}
use Rattle.image_rows.proofs.row_groups.PackedGroups.is_empty.Goals as goal

pub returns : goal.returns
returns c = is_none c.self.inside.count c.self.inside.bytes.now c.args.self.now c.self.view_is c.self.invariant
