-- Numbers as text: decimal digits without leading zeros.
use Rattle.std.specs.Prelude.{◌≡◌, ℕ, length, take, Bool, false, not, ◌&&◌, ◌==◌, List, [], ◌∷◌, Option}
use Rattle.std.specs.Prelude.{Some, None, option_map, Result, Ok, Err, nat_le, nat_lt, get_or, ◌||◌, if◌then◌else◌}
use Rattle.std.specs.Char.{is_ascii_digit}
use Rattle.std.specs.List.{list_all}
use Rattle.std.specs.Option.{option_and_then}
use Rattle.std.specs.Str.Parse.{digits_value}
use Rattle.identity.specs.Numbers.{Byte}
use Rattle.identity.specs.declared.fault.Fault.{Fault}
use Rattle.identity.specs.declared.fault.Fault.TheVariants.{BadText, OutOfRange}

-- the form of a number: digits alone, at least one, and no zero before another
unfoldable pub is_number : List Byte → Bool
is_number [] = false
is_number (c ∷ []) = is_ascii_digit c
is_number (c ∷ d ∷ text) = not (c == 48) && list_all is_ascii_digit (c ∷ d ∷ text)

-- the value of digits
abbrev pub value : List Byte → ℕ
value digits = digits_value 10 digits

-- the number of at most `most` that is read from a text, or the fault: the form is judged before the range
unfoldable pub reading_number : ℕ → List Byte → Result ℕ Fault
reading_number most text = if is_number text then (if nat_le (value text) most then Ok (value text) else Err OutOfRange) else Err BadText

-- what is before the first byte `mark`, and what is after it
unfoldable pub cut : Byte → List Byte → Option (List Byte × List Byte)
cut mark [] = None
cut mark (b ∷ text) = if b == mark then Some ([], text) else option_map (λ parts. (b ∷ parts.0, parts.1)) (cut mark text)

-- the number before the first byte `mark`, and what is after that
unfoldable pub number_before : Byte → List Byte → Option (ℕ × List Byte)
number_before mark text = option_and_then (λ parts. if is_number parts.0 then Some (value parts.0, parts.1) else None) (cut mark text)

-- whether a dash stands after digits that are a number: one alone, or no zero first
abbrev pub is_number_end : List Byte → ℕ → Bool
is_number_end text at = (get_or text at 0 == 45) && ((at == 1) || nat_lt 48 (get_or text 0 0))

-- the result of `range` for the form that was found in a text, and `BadText` where none was found
abbrev pub judged : {A B : Type 0} → (A → Result B Fault) → Option A → Result B Fault
judged range None = Err BadText
judged range (Some form) = range form

-- the old contents of a buffer are a prefix of the new ones
abbrev pub IsPrefixOf : List Byte → List Byte → Type 0
IsPrefixOf old new = take (length old) new ≡ old
