use Rattle.std.proofs.Common.{ℕ, ap, ◌∙◌, ◌++◌}
use Rattle.std.specs.Char.{digit_value}
use Rattle.identity.specs.Number.{num}
use Rattle.identity.proofs.DigitBytes.{halves}
use Rattle.identity.proofs.bits_text.byte_of.Goals as goal

pub returns : goal.returns
returns c =
    halves c.digit_of.result c.digit_of-2.result c.digit_of.ensures.small c.digit_of-2.ensures.small
    ∙ ap (λ (n : ℕ). num 4 n ++ num 4 c.digit_of-2.result) c.digit_of.ensures.value
    ∙ ap (λ (n : ℕ). num 4 (digit_value c.args.high) ++ num 4 n) c.digit_of-2.ensures.value
