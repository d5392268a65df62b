use Rattle.std.proofs.Common.{◌∙◌, ap, sym, option_map}
use Rattle.settings.specs.declared.naming.NameFault.TheVariants.{Twice}
use Rattle.settings.proofs.Names.{reported_within}
use Rattle.settings.proofs.naming.name_files.Goals as goal

pub returns-in-Some-clause-within : goal.returns-in-Some-clause-within
returns-in-Some-clause-within g c = reported_within c.args.names.now (Twice c.in-Some.place) (λ _. ap (option_map Twice) (sym c.first_twice.ensures ∙ c.in-Some.is))

pub returns-in_default-clause-within : goal.returns-in_default-clause-within
returns-in_default-clause-within g c = reported_within c.args.names.now _ c.in_default.ensures.refused
