use Rattle.command_bytes.proofs.BodyLaws.{command_again}
use Rattle.command_bytes.proofs.Spelled.{whole_again, only_text}
use Rattle.command_bytes.proofs.laws.read_back.Goals as goal

pub returns-clause-whole : goal.returns-clause-whole
returns-clause-whole g c = whole_again

pub returns-clause-first : goal.returns-clause-first
returns-clause-first g c = command_again

pub returns-clause-only : goal.returns-clause-only
returns-clause-only g c = only_text
