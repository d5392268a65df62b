use Rattle.std.proofs.Common.{◌≡◌, min, length, take, drop, arith, rules}
use Rattle.std.proofs.lemmas.Grind.{common_steps}
use Rattle.identity.specs.Number.{number}
use Rattle.identity.proofs.HexSteps.{hex_next}
use Rattle.identity.proofs.bits_text.next_digit.Goals as goal

pub returns-clause-digit : goal.returns-clause-digit
returns-clause-digit c =
    let w = c.min-width.result in
    let bits = c.args.reader.now in
    let is_w : w ≡ min (length bits) 4 = search rules in
    let is_v : c.unwrap-value.result ≡ number (take w bits) = grind (arith, common_steps) in
    let is_rest : c.take.new.self ≡ drop w bits = grind (arith, common_steps) in
    hex_next bits c.take.new.self w c.unwrap-value.result c.filled.result c.glyph.result c.requires is_w is_v is_rest c.filled.ensures.value c.glyph.ensures.value
