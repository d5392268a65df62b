use Rattle.std.proofs.Common.{◌%◌, ◌^◌, ap, sym, take, ◌∙◌, arith}
use Rattle.identity.specs.Inside.PathLaws.{take-id, first_bits_fit, id_path-mod}
use Rattle.identity.proofs.prefix.Prefix.of.Goals as goal

pub invariant_of-result : goal.invariant_of-result
invariant_of-result c = (c.requires, first_bits_fit c.args.len (c.args.number % 2 ^ 48) c.requires (omega arith))

pub returns : goal.returns
returns c = sym (ap (take c.args.len) (sym (id_path-mod c.args.number)) ∙ take-id c.args.len (c.args.number % 2 ^ 48) c.requires)
