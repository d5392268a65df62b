-- How great the numbers are that words say, and how long the bits.
use Rattle.std.proofs.Common.{◌≡◌, ◌≤◌, ℕ, Bool, List, length, Ok, arith, nat_le}
use Rattle.base.proofs.Numbers.{le_by_test}
use Rattle.identity.specs.BitsText.{most_bits, reading_bits}
use Rattle.identity.specs.NumberText.{is_number, value, reading_number}
use Rattle.identity.proofs.BitsTexts.{reading_bits_only}
use Rattle.identity.proofs.Texts.{chosen_ok, ok_same}

pub number_most : (most n : ℕ) (word : List ℕ) → reading_number most word ≡ Ok n → n ≤ most
unfolding reading_number
number_most most n word e =
    let form = chosen_ok (is_number word) _ _ n e in
    let range = chosen_ok (nat_le (value word) most) _ _ n form.1 in
    let le = le_by_test (value word) most range.0 in
    let is : value word ≡ n = ok_same (value word) n range.1 in
    omega (arith, le, is)

pub short_bits : (word : List ℕ) (bits : List Bool) → reading_bits word ≡ Ok bits → length bits ≤ most_bits
short_bits word bits e = (reading_bits_only bits word e).0
