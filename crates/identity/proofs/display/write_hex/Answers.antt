use Rattle.std.proofs.Common.{◌≡◌, [], ◌∷◌, ◌++◌, arith, rules, refl, sym, ap, ◌∙◌, append_assoc}
use Rattle.std.proofs.Output.{has_written_of_eq}
use Rattle.std.proofs.lemmas.Grind.{put_two}
use Rattle.std.proofs.lemmas.Str.{encode_ascii}
use Rattle.std.specs.Char.{encode_utf8}
use Rattle.std.specs.Fmt.{HasWritten}
use Rattle.identity.specs.BitsText.{hex_of}
use Rattle.identity.proofs.HexSteps.{hex_done}
use Rattle.identity.proofs.display.write_hex.Goals as goal

pub loop-f-preserved : goal.loop-f-preserved
loop-f-preserved g c = λ plain.
    let so_far = c.loop-f.invariant plain in
    let digit = c.next_digit.result in
    let is : encode_utf8 c.from.result ≡ digit ∷ [] = rw c.from.ensures (encode_ascii digit c.next_digit.ensures.ascii) in
    let wrote : HasWritten g.W.Write.write_str_gives c.loop-f.f (digit ∷ []) c.write_char.new.self = rw is at (c.write_char.ensures.writes so_far.1.plain (search rules)) in (
      so_far.0 ++ digit ∷ [],
      put_two _ _ _ _ _ _ _ so_far.1 wrote refl,
      append_assoc so_far.0 (digit ∷ []) (hex_of c.next_digit.new.reader)
          ∙ ap (λ text. so_far.0 ++ text) (sym c.next_digit.ensures.digit) ∙ so_far.2,
    )

pub returns : goal.returns
returns g c = λ plain _.
    let so_far = c.loop-f.invariant plain in
    has_written_of_eq _ _ _ _ _ (hex_done so_far.0 _ c.loop-f.reader (omega arith) so_far.2) so_far.1
