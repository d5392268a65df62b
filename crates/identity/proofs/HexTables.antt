-- What the tables of hexadecimal digits hold.
use Rattle.std.proofs.Common.{◌≡◌, ℕ, ◌<◌, List, [], get_or, map, refl, ap, ◌∙◌, arith}
use Rattle.std.specs.Prelude.{if◌then◌else◌}
use Rattle.std.specs.Char.{digit_value, is_ascii_hexdigit}
use Rattle.std.specs.List.{range_with_len}
use Rattle.std.proofs.lemmas.List.FromFn.{get_or-map-range_with_len}
use Rattle.identity.specs.Number.{num, number}
use Rattle.identity.specs.BitsText.{hex_of}
use Rattle.identity.specs.declared.hex_digits.TheConstants.{PAIRS, VALUES}

pairs : PAIRS ≡ map (λ (b : ℕ). hex_of (num 8 b)) (range_with_len 0 256)
unfolding hex_of num number
pairs = refl

pub pair_at : (b : ℕ) → b < 256 → get_or PAIRS b [] ≡ hex_of (num 8 b)
pair_at b small = ap (λ (l : List (List ℕ)). get_or l b []) pairs ∙ get_or-map-range_with_len (λ (n : ℕ). hex_of (num 8 n)) 0 256 b b [] small (omega arith)

values : VALUES ≡ map (λ (b : ℕ). if is_ascii_hexdigit b then digit_value b else 16) (range_with_len 0 256)
values = refl

pub value_at : (b : ℕ) → b < 256 → get_or VALUES b 0 ≡ (if is_ascii_hexdigit b then digit_value b else 16)
value_at b small = ap (λ (l : List ℕ). get_or l b 0) values ∙ get_or-map-range_with_len (λ (n : ℕ). if is_ascii_hexdigit n then digit_value n else 16) 0 256 b b 0 small (omega arith)
