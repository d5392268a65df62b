use Rattle.std.proofs.Common.{◌≡◌, ◌*◌, ◌-◌, ◌++◌, ◌<◌, ◌^◌, List, Bool, false, length, replicate, sym, ap, ◌∙◌, arith, Ok}
use Rattle.identity.specs.Number.{num, number}
use Rattle.identity.specs.Inside.NumberLaws.{number-lt}
use Rattle.identity.specs.Packed.{bits_of}
use Rattle.identity.specs.BitsText.{digit_bits}
use Rattle.identity.proofs.BitsText.{length-digit_bits}
use Rattle.identity.proofs.DigitBytes.{parts, clear, prefix, digits_back}
use Rattle.identity.proofs.ShortForms.{read_few}
use Rattle.identity.proofs.bits_text.short_bits.Goals.{After-eight_bytes}
use Rattle.identity.proofs.bits_text.short_bits.Given as given
use Rattle.identity.proofs.bits_text.short_bits.Goals as goal

pub eight_bytes-requires-clause-fits : goal.eight_bytes-requires-clause-fits
eight_bytes-requires-clause-fits g c =
    let bits = digit_bits c.args.digits.now in
    let below : number bits < 2 ^ (4 * length c.args.digits.now) = rw (length-digit_bits c.args.digits.now) at (number-lt bits) in
    rw c.in-Some.ensures.number below

bits_are : (g : given.Over) (c : After-eight_bytes g) → bits_of c.eight_bytes.result ≡ digit_bits c.args.digits.now ++ replicate (64 - 4 * length c.args.digits.now) false
bits_are g c =
    let n = length c.args.digits.now in
    c.eight_bytes.ensures ∙ ap (λ (l : List Bool). l ++ replicate (64 - 4 * n) false) (ap (num (4 * n)) c.in-Some.ensures.number ∙ digits_back c.args.digits.now)

pub short-requires-clause-few : goal.short-requires-clause-few
short-requires-clause-few g c =
    let n = length c.args.digits.now in
    let p = parts c.args.digits.now c.eight_bytes.result c.in-Some.len (64 - 4 * n) (bits_are g c) c.in-Some.ensures.filled in
    omega (arith, p.0, c.requires.few)

pub short-requires-clause-clear : goal.short-requires-clause-clear
short-requires-clause-clear g c =
    clear c.args.digits.now c.eight_bytes.result c.in-Some.len (64 - 4 * length c.args.digits.now) (bits_are g c) c.in-Some.ensures.filled

pub returns-clause-ok : goal.returns-clause-ok
returns-clause-ok g c =
    let digits = c.args.digits.now in
    let n = length digits in
    let len = c.in-Some.len in
    let is = bits_are g (goal.at.returns-clause-ok g c).After-eight_bytes in
    let p = parts digits c.eight_bytes.result len (64 - 4 * n) is c.in-Some.ensures.filled in
    read_few c.args.count.now digits len (sym c.in-Some.ensures.len) (omega (arith, p.0, c.requires.few))
    ∙ sym (ap Ok (c.short.ensures ∙ prefix digits c.eight_bytes.result len (64 - 4 * n) is c.in-Some.ensures.filled))
