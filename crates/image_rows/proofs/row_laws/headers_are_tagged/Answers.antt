use Rattle.image_rows.proofs.Tags.{header_is_tagged, header_has_tag, either_tag}
use Rattle.image_rows.proofs.row_laws.headers_are_tagged.Goals as goal

pub returns-clause-written : goal.returns-clause-written
returns-clause-written c = header_is_tagged

pub returns-clause-read : goal.returns-clause-read
returns-clause-read c = header_has_tag

pub returns-clause-either : goal.returns-clause-either
returns-clause-either c = either_tag
