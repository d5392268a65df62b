use Rattle.identity.proofs.Pairs.{pair_at}
use Rattle.identity.proofs.number_text.pair.Goals as goal

pub returns : goal.returns
returns c = pair_at c.args.value c.requires
