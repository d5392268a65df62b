-- Strings of bits as text: their number, `:`, and hexadecimal digits, the last one filled up with zeros.
use Rattle.std.specs.Prelude.{◌≡◌, ℕ, ◌+◌, ◌*◌, ◌<◌, Bool, true, false, ◌&&◌, ◌==◌, List, [], ◌∷◌, ◌++◌, length, take, drop, replicate}
use Rattle.std.specs.Prelude.{Option, Some, None, option_map, Result, Ok, Err, nat_le, nat_lt, decimal, if◌then◌else◌}
use Rattle.std.specs.Char.{digit_value, is_ascii_hexdigit}
use Rattle.std.specs.Fmt.{digit_glyph}
use Rattle.std.specs.List.{flat_map, list_all}
use Rattle.std.specs.Option.{option_and_then}
use Rattle.identity.specs.Numbers.{Byte}
use Rattle.identity.specs.Number.{num, number}
use Rattle.identity.specs.NumberText.{is_number, value, cut, judged}
use Rattle.identity.specs.declared.fault.Fault.{Fault}
use Rattle.identity.specs.declared.fault.Fault.TheVariants.{OutOfRange}

-- ---- texts

-- the capital digit of four bits
abbrev pub hex_glyph : List Bool → Byte
hex_glyph bits = digit_glyph true (number bits)

-- the digits of bits
unfoldable pub hex_of : List Bool → List Byte
hex_of [] = []
hex_of (a ∷ []) = hex_glyph (a ∷ false ∷ false ∷ false ∷ []) ∷ []
hex_of (a ∷ b ∷ []) = hex_glyph (a ∷ b ∷ false ∷ false ∷ []) ∷ []
hex_of (a ∷ b ∷ c ∷ []) = hex_glyph (a ∷ b ∷ c ∷ false ∷ []) ∷ []
hex_of (a ∷ b ∷ c ∷ d ∷ rest) = hex_glyph (a ∷ b ∷ c ∷ d ∷ []) ∷ hex_of rest

-- the text of bits
unfoldable pub bits_text : List Bool → List Byte
bits_text bits = decimal (length bits) ++ 58 ∷ hex_of bits

-- the bits of digits in either case, four each
unfoldable pub digit_bits : List Byte → List Bool
digit_bits digits = flat_map (λ c. num 4 (digit_value c)) digits

-- a text spells bits: their number, `:`, and the digits of the bits with fewer than four zeros after them
pub record SpellsBits (text : List Byte) (bits : List Bool) : Type 0 where
  pub digits : List Byte
  pub fill : ℕ
  pub hexadecimal : list_all is_ascii_hexdigit digits ≡ true
  pub few : fill < 4
  pub padded : digit_bits digits ≡ bits ++ replicate fill false
  pub spelt : text ≡ decimal (length bits) ++ 58 ∷ digits

-- ---- the reading of texts: the form is judged before any range

-- the digits are as many as n bits need, and what fills the last one is 0
unfoldable pub is_filled : ℕ → List Byte → Bool
is_filled n digits = nat_le n (4 * length digits) && nat_lt (4 * length digits) (n + 4) && (number (drop n (digit_bits digits)) == 0)

-- a text has the form of bits, however many: a number, `:`, and the digits that so many bits need
pub record IsBitsForm (text : List Byte) : Type 0 where
  pub count : List Byte
  pub digits : List Byte
  pub spelt : text ≡ count ++ 58 ∷ digits
  pub number : is_number count ≡ true
  pub hexadecimal : list_all is_ascii_hexdigit digits ≡ true
  pub filled : is_filled (value count) digits ≡ true

-- how many bits a text has, by its count and its digits; none where its form is not good
unfoldable pub bits_len : List Byte → List Byte → Option ℕ
bits_len count digits = if is_number count && list_all is_ascii_hexdigit digits && is_filled (value count) digits then Some (value count) else None

-- how many bits a text has, and their digits; none where its form is not good
unfoldable pub bits_form : List Byte → Option (ℕ × List Byte)
bits_form text = option_and_then (λ p. option_map (λ n. (n, p.1)) (bits_len p.0 p.1)) (cut 58 text)

-- the most bits of a string that is read
abbrev pub most_bits : ℕ
most_bits = 2048

-- the bits that are read from a text, or the fault
unfoldable pub reading_bits : List Byte → Result (List Bool) Fault
reading_bits text = judged (λ form. if nat_le form.0 most_bits then Ok (take form.0 (digit_bits form.1)) else Err OutOfRange) (bits_form text)
