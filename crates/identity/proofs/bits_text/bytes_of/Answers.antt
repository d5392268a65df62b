use Rattle.std.proofs.Common.{ap, ◌∙◌, arith}
use Rattle.identity.specs.Packed.{bits_of}
use Rattle.identity.proofs.DigitBytes.{no_digits, two_more, even_digits, odd_digits}
use Rattle.identity.proofs.bits_text.bytes_of.Goals.{then-digits-eq1+in_ok-push-2, else-digits-eq1}
use Rattle.identity.proofs.bits_text.bytes_of.Goals as goal

pub loop-i-init : goal.loop-i-init
loop-i-init g c = ap bits_of c.in_ok-bytes.ensures.items ∙ no_digits c.args.digits.now

pub loop-i-preserved : goal.loop-i-preserved
loop-i-preserved g c =
    ap bits_of c.in_ok-push.ensures.items
    ∙ two_more c.args.digits.now c.loop-i.bytes.items c.loop-i.i c.byte_of.result (omega (arith, c.loop-i-test.true)) c.loop-i.invariant c.byte_of.ensures

pub returns : goal.returns
returns g c = record {
  bits = elim c.if-digits-eq1.branch [
    | then-digits-eq1+in_ok-push-2 w ↦
        ap (λ b. bits_of b.items) w.bytes-is ∙ ap bits_of w.in_ok-push-2.ensures.items
        ∙ odd_digits c.args.digits.now c.loop-i.bytes.items c.loop-i.i w.digit_of.result (omega (arith, w.if-digits-eq1)) (omega (arith, c.loop-i-test.false, w.if-digits-eq1)) c.loop-i.invariant
        w.digit_of.ensures.small w.digit_of.ensures.value
    | else-digits-eq1 w ↦
        ap (λ b. bits_of b.items) w.bytes-is ∙ even_digits c.args.digits.now c.loop-i.bytes.items c.loop-i.i (omega (arith, w.if-digits-eq1))
        (omega (arith, c.loop-i-test.false, w.if-digits-eq1)) c.loop-i.invariant
  ];
}
