use Rattle.image_rows.proofs.Worked.{empty_image, new_image, worked_image}
use Rattle.image_rows.proofs.laws.worked_images.Goals as goal

pub returns-clause-empty : goal.returns-clause-empty
returns-clause-empty c = empty_image

pub returns-clause-bytes : goal.returns-clause-bytes
returns-clause-bytes c = new_image

pub returns-clause-one : goal.returns-clause-one
returns-clause-one c = worked_image
