use Rattle.image_rows.proofs.Counts.{none_longer}
use Rattle.image_rows.proofs.laws.none_begins_another.Goals as goal

pub returns : goal.returns
returns c = none_longer
