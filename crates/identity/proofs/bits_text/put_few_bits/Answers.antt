use Rattle.std.proofs.Common.{rules}
use Rattle.identity.proofs.FewBits.{few_text}
use Rattle.identity.proofs.bits_text.put_few_bits.Goals as goal

pub returns-clause-ok : goal.returns-clause-ok
returns-clause-ok g c =
    let text = few_text c.in_place.result c.text_of-text.result c.args.bits.now c.len-len.result c.not_shown.result c.div_ceil.result
    (search rules) c.requires.few (search rules) c.in_place.ensures.clear c.in_place.ensures.bits (search rules) c.not_shown.ensures.few (search rules) (search rules) in
    search (rules, text)

pub returns-clause-full : goal.returns-clause-full
returns-clause-full g c =
    let text = few_text c.in_place.result c.text_of-text.result c.args.bits.now c.len-len.result c.not_shown.result c.div_ceil.result
    (search rules) c.requires.few (search rules) c.in_place.ensures.clear c.in_place.ensures.bits (search rules) c.not_shown.ensures.few (search rules) (search rules) in
    search (rules, text)
