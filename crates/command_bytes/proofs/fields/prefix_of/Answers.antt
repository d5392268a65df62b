use Rattle.command_bytes.proofs.Prefixes.{prefix_unpadded}
use Rattle.command_bytes.proofs.fields.prefix_of.Goals as goal

pub returns : goal.returns
returns c = prefix_unpadded c.args.bits c.args.len c.new.result c.requires.bits c.requires.len c.new.ensures.fits c.new.ensures.value
