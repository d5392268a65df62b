use Rattle.std.proofs.Common.{◌≡◌, length, rules}
use Rattle.identity.proofs.FewBits.{laid}
use Rattle.identity.proofs.bits_text.text_of.Goals as goal

pub returns : goal.returns
returns c =
    let three : length c.args.head ≡ 3 = search rules in
    let eight : length c.args.bytes ≡ 8 = search rules in
    laid c.args.head c.args.bytes c.pair_of-first.result c.pair_of-second.result c.pair_of-third.result c.pair_of-fourth.result
    c.pair_of-fifth.result c.pair_of-sixth.result c.pair_of-seventh.result c.pair_of-eighth.result three eight
    c.pair_of-first.ensures c.pair_of-second.ensures c.pair_of-third.ensures c.pair_of-fourth.ensures
    c.pair_of-fifth.ensures c.pair_of-sixth.ensures c.pair_of-seventh.ensures c.pair_of-eighth.ensures
