use Rattle.std.proofs.Common.{refl}
use Rattle.identity.proofs.ShortForms.{eight}
use Rattle.identity.proofs.bits_text.eight_bytes.Goals as goal

pub returns : goal.returns
returns c = eight c.args.value c.args.digits _ c.to_be_bytes.result c.requires.few c.requires.fits c.to_be_bytes.ensures refl
