use Rattle.std.proofs.Common.{◌∙◌, arith}
use Rattle.std.proofs.lemmas.List.{take_all}
use Rattle.identity.specs.Path.{id_path}
use Rattle.identity.specs.Inside.PathLaws.{length-id_path}
use Rattle.identity.proofs.prefix.Prefix.whole.Goals as goal

pub returns : goal.returns
returns c = c.of.ensures ∙ take_all 48 (id_path c.args.number) (omega (arith, length-id_path c.args.number))
