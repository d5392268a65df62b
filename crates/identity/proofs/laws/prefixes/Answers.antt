use Rattle.identity.specs.Inside.PathLaws.{begins_then}
use Rattle.identity.proofs.Identities.{begins_prefix, before_extension, zero_before_one}
use Rattle.identity.proofs.laws.prefixes.Goals as goal

pub returns-clause-begins : goal.returns-clause-begins
returns-clause-begins c p q = (begins_then p q, begins_prefix p q)

pub returns-clause-extension : goal.returns-clause-extension
returns-clause-extension c = before_extension

pub returns-clause-differ : goal.returns-clause-differ
returns-clause-differ c = zero_before_one
