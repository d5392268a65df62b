use Rattle.std.proofs.Common.{◌≡◌, ◌<◌, ◌∙◌, rules, get_or}
use Rattle.identity.specs.declared.hex_digits.TheConstants.{VALUES}
use Rattle.identity.proofs.HexTables.{value_at}
use Rattle.identity.proofs.hex_digits.value_in.Goals as goal

pub returns : goal.returns
returns c =
    let small : c.args.byte < 256 = search rules in
    let read : c.from-2.result ≡ get_or VALUES c.args.byte 0 = search rules in
    read ∙ value_at c.args.byte small
