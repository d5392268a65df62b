use Rattle.std.proofs.Common.{refl}
use mathlib.Core.Bool.{false≢true}
use Rattle.identity.proofs.Prefixes.{prefix_some, prefix_none}
use Rattle.identity.proofs.identity_text.prefix_of.Goals as goal

pub returns-in-Some : goal.returns-in-Some
returns-in-Some c =
    let fits = c.in-Some.ensures.fits.0 refl in
    prefix_some c.args.identity c.args.len c.in-Some.prefix fits.0 fits.2 c.in-Some.ensures.value

pub returns-in-None : goal.returns-in-None
returns-in-None c = prefix_none c.args.identity c.args.len c.requires.len (λ rest. false≢true (c.in-None.ensures.fits.1 (c.requires.len, c.requires.identity, rest)))
