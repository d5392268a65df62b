use Rattle.image_rows.proofs.GroupSteps.{list_there, are_there}
use Rattle.image_rows.proofs.row_groups.groups.Goals as goal

pub returns : goal.returns
returns c = list_there c.args.count c.args.bytes.now (are_there c.args.count c.args.bytes.now c.in_ok-_after._after.now c.in_ok-_after.ensures)
