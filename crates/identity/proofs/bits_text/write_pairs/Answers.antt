use Rattle.std.proofs.Common.{◌≡◌, ◌+◌, ◌*◌, ◌<◌, ◌≤◌, ◌/◌, ◌++◌, List, ℕ, take, length, get_or, sym, ap, ◌∙◌, arith, rules, [], ◌∷◌}
use Rattle.std.proofs.lemmas.Slice.{take-put_mid, overwrites}
use Rattle.std.proofs.lemmas.List.{take_more_set, take_all, length-set}
use Rattle.identity.specs.Number.{num}
use Rattle.identity.specs.BitsText.{hex_of}
use Rattle.identity.proofs.HexPairs.{hexes, pair_more, one_more}
use Rattle.identity.proofs.bits_text.write_pairs.Goals as goal

pub loop-i-preserved : goal.loop-i-preserved
loop-i-preserved c =
    let i = c.loop-i.i in let bytes = c.args.bytes.now in let digits = c.loop-i.digits in
    let pair = c.copy_from_slice.new.self in
    let two : length pair ≡ 2 = search rules in
    let room : 2 * i + 2 ≤ length digits = omega (arith, c.loop-i.invariant.0, c.loop-i-test.true) in
    let within : i < length bytes = omega (arith, c.loop-i-test.true, c.requires) in
    let is : pair ≡ hex_of (num 8 (get_or bytes i 0)) = c.copy_from_slice.ensures.after ∙ c.pair_of.ensures in (
      search (rules, overwrites, two, room),
      take-put_mid (2 * i) _ digits pair (2 * (i + 1)) (omega (arith, two)) (omega (arith, room))
          ∙ ap (λ (l : List ℕ). l ++ pair) c.loop-i.invariant.1 ∙ ap (λ (l : List ℕ). take (2 * i) (hexes bytes) ++ l) is ∙ sym (pair_more bytes i within),
    )

pub returns-then-digits-eq1 : goal.returns-then-digits-eq1
returns-then-digits-eq1 c =
    let i = c.loop-i.i in let bytes = c.args.bytes.now in let digits = c.loop-i.digits in
    let n = length c.args.digits.now in
    let w = n / 2 in
    let odd : n ≡ 2 * w + 1 = omega (arith, c.if-digits-eq1.true) in
    let at : 2 * i ≡ 2 * w = omega (arith, c.loop-i-test.false, c.loop-i.auto.i-end) in
    let g = get_or c.pair_of-then-digits-eq1.result 0 0 in
    let is : g ≡ get_or (hex_of (num 8 (get_or bytes w 0))) 0 0 = ap (λ (l : List ℕ). get_or l 0 0) c.pair_of-then-digits-eq1.ensures in
    let long : length digits ≡ n = c.loop-i.invariant.0 in
    let so_far : take (2 * w) digits ≡ take (2 * w) (hexes bytes) = rw at at c.loop-i.invariant.1 in
    let whole : n ≡ length digits = sym long in
    sym (take_all (2 * w + 1) _ (omega (arith, length-set digits (2 * w) g, long, odd)))
    ∙ take_more_set digits (2 * w) g (omega (arith, long, odd))
    ∙ ap (λ (l : List ℕ). l ++ g ∷ []) so_far ∙ ap (λ (m : ℕ). take (2 * w) (hexes bytes) ++ m ∷ []) is
    ∙ sym (one_more bytes w (omega (arith, odd, c.requires)))
    ∙ ap (λ (m : ℕ). take m (hexes bytes)) (sym odd)
