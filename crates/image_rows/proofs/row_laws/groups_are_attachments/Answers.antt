use Rattle.image_rows.proofs.Fits.{same_groups}
use Rattle.image_rows.proofs.row_laws.groups_are_attachments.Goals as goal

pub returns : goal.returns
returns c = same_groups
