use Rattle.registration.proofs.TypeLaws as types
use Rattle.registration.proofs.laws.accepted_types.Goals as goal

pub returns : goal.returns
returns c = types.accepted_types
