use Rattle.std.proofs.Common.{◌≡◌, ◌+◌, ◌++◌, List, ℕ, take, length, ap, ◌∙◌, rules}
use Rattle.std.proofs.lemmas.List.{with_items_is}
use Rattle.identity.specs.BitsText.{hex_of}
use Rattle.identity.proofs.HexPairs.{hexes, appended_part, length_part, packed_digits, count_of_digits}
use Rattle.identity.proofs.bits_text.put_hex.Goals as goal

pub returns-in_err-resize-clause-full : goal.returns-in_err-resize-clause-full
returns-in_err-resize-clause-full g c =
    let count : length (hex_of c.args.bits.now) ≡ c.div_ceil.result = count_of_digits c.args.bits.now c.div_ceil.result (search rules) in
    search (rules, count)

pub returns-clause-ok : goal.returns-clause-ok
returns-clause-ok g c =
    let bits = c.args.bits.now in
    let n = c.div_ceil.result in
    let before = c.len-before.result in
    let count : length (hex_of bits) ≡ n = count_of_digits bits n (search rules) in
    let start : before ≡ length c.args.out.now.items = search rules in
    let packed = packed_digits c.as_bytes.result.now bits c.as_bytes.ensures.packed c.as_bytes.ensures.bits in
    let old = c.args.out.now.items in
    let big = c.deref_mut.result.now in
    let room : length big ≡ before + n = search rules in
    let digits : c.write_pairs.new.digits ≡ hex_of bits = c.write_pairs.ensures ∙ ap (λ (m : ℕ). take m (hexes c.as_bytes.result.now)) (search (rules, count, room)) ∙ packed.1 in
    let long : length c.write_pairs.new.digits ≡ n = ap length digits ∙ count in
    with_items_is c.resize.new.self _ (length_part big c.write_pairs.new.digits before n room long ∙ c.deref_mut.ensures.len)
    ∙ appended_part old big c.write_pairs.new.digits before c.args.out.now.len n c.args.out.now.ok.0 c.len-before.ensures (c.deref_mut.ensures.value ∙ c.in_ok-resize.ensures.items) long
    ∙ ap (λ (l : List ℕ). old ++ l) digits
