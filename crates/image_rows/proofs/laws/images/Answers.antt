use Rattle.image_rows.proofs.Images.{written_is_image, image_is_spelt}
use Rattle.image_rows.proofs.laws.images.Goals as goal

pub returns-clause-written : goal.returns-clause-written
returns-clause-written c = written_is_image

pub returns-clause-only : goal.returns-clause-only
returns-clause-only c = image_is_spelt
