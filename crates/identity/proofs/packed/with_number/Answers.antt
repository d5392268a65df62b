use Rattle.std.proofs.Common.{rules, ◌≡◌, ◌<◌, ◌+◌, ◌^◌, ℕ, get_or, length, ap, sym, ◌∙◌}
use Rattle.identity.specs.Number.{num}
use Rattle.identity.specs.Packed.{bits_of}
use Rattle.identity.proofs.Words.{word_bits, number_shown, shifted, sum_fits}
use Rattle.identity.proofs.packed.with_number.Goals as goal

pub returns : goal.returns
returns c =
    let eight : length c.args.bytes ≡ 8 = search rules in
    let small : (i : ℕ) → get_or c.args.bytes i 0 < 256 = search rules in
    let word = c.from_be_bytes.result in
    let bits_are : bits_of c.args.bytes ≡ num 64 word = word_bits c.args.bytes eight small ∙ ap (num 64) (sym c.from_be_bytes.ensures) in
    number_shown c.args.bytes c.args.len c.args.width c.args.value word bits_are eight c.requires.room c.requires.fits c.requires.clear c.to_be_bytes.result _ c.to_be_bytes.ensures
    (ap (λ (n : ℕ). word + n) (shifted c.args.len c.args.width c.args.value c.requires.room c.requires.fits))

pub overflow_add-from_be_bytes : goal.overflow_add-from_be_bytes
overflow_add-from_be_bytes c =
    let eight : length c.args.bytes ≡ 8 = search rules in
    let small : (i : ℕ) → get_or c.args.bytes i 0 < 256 = search rules in
    let word = c.from_be_bytes.result in
    let bits_are : bits_of c.args.bytes ≡ num 64 word = word_bits c.args.bytes eight small ∙ ap (num 64) (sym c.from_be_bytes.ensures) in
    let is_word : word < 2 ^ 64 = search rules in
    let fits = sum_fits c.args.bytes c.args.len c.args.width c.args.value word bits_are eight c.requires.room c.requires.fits c.requires.clear is_word in
    rw (shifted c.args.len c.args.width c.args.value c.requires.room c.requires.fits) (record { fits = fits })
