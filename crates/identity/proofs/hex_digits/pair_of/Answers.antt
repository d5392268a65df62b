use Rattle.std.proofs.Common.{◌≡◌, rules, ◌<◌}
use Rattle.identity.proofs.HexTables.{pair_at}
use Rattle.identity.proofs.hex_digits.pair_of.Goals as goal

pub returns : goal.returns
returns c =
    let small : c.args.byte < 256 = search rules in
    let same : c.from.result ≡ c.args.byte = c.from.ensures in
    (rw same (pair_at c.args.byte small))
