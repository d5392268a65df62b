-- One digit of the text of bits.
use Rattle.std.proofs.Common.{◌≡◌, ℕ, ◌+◌, ◌-◌, ◌*◌, ◌^◌, ◌<◌, ◌≤◌, min, Bool, true, false, List, [], ◌∷◌, ◌++◌, length, take, drop, sym, ap, subst, ◌∙◌, arith}
use Rattle.std.proofs.lemmas.List.{append-nil, length-append}
use Rattle.std.specs.Fmt.{digit_glyph}
use Rattle.identity.specs.Number.{number}
use Rattle.identity.specs.BitsText.{hex_of}

one : (a : Bool) → number (a ∷ false ∷ false ∷ false ∷ []) ≡ number (a ∷ []) * 2 ^ 3
unfolding number
one a = omega arith

two : (a b : Bool) → number (a ∷ b ∷ false ∷ false ∷ []) ≡ number (a ∷ b ∷ []) * 2 ^ 2
unfolding number
two a b = omega arith

three : (a b c : Bool) → number (a ∷ b ∷ c ∷ false ∷ []) ≡ number (a ∷ b ∷ c ∷ []) * 2 ^ 1
unfolding number
three a b c = omega arith

four : (a b c d : Bool) → number (a ∷ b ∷ c ∷ d ∷ []) ≡ number (a ∷ b ∷ c ∷ d ∷ []) * 2 ^ 0
four a b c d = omega arith

IsStep : List Bool → ℕ → Type 0
IsStep bits w = hex_of bits ≡ digit_glyph true (number (take w bits) * 2 ^ (4 - w)) ∷ hex_of (drop w bits)

step_at : (bits : List Bool) (n w : ℕ) → w ≡ n → IsStep bits n → IsStep bits w
step_at bits n w e h = subst (IsStep bits) (sym e) h

hex_step : (bits : List Bool) (w : ℕ) → 0 < length bits → w ≡ min (length bits) 4 → hex_of bits ≡ digit_glyph true (number (take w bits) * 2 ^ (4 - w)) ∷ hex_of (drop w bits)
unfolding hex_of IsStep
hex_step [] w some is = absurd (omega arith)
hex_step (a ∷ []) w some is = step_at (a ∷ []) 1 w (omega arith) (ap (λ (n : ℕ). digit_glyph true n ∷ []) (one a))
hex_step (a ∷ b ∷ []) w some is = step_at (a ∷ b ∷ []) 2 w (omega arith) (ap (λ (n : ℕ). digit_glyph true n ∷ []) (two a b))
hex_step (a ∷ b ∷ c ∷ []) w some is = step_at (a ∷ b ∷ c ∷ []) 3 w (omega arith) (ap (λ (n : ℕ). digit_glyph true n ∷ []) (three a b c))
hex_step (a ∷ b ∷ c ∷ d ∷ bits) w some is = step_at (a ∷ b ∷ c ∷ d ∷ bits) 4 w (omega arith) (ap (λ (n : ℕ). digit_glyph true n ∷ hex_of bits) (four a b c d))

-- the digit that a reader gives
pub hex_next : (bits rest : List Bool) (w v d g : ℕ) → 0 < length bits → w ≡ min (length bits) 4 → v ≡ number (take w bits) → rest ≡ drop w bits → d ≡ v * 2 ^ (4 - w)
    → g ≡ digit_glyph true d → hex_of bits ≡ g ∷ hex_of rest
hex_next bits rest w v d g some is_w is_v is_rest is_d is_g =
    let glyph : digit_glyph true (number (take w bits) * 2 ^ (4 - w)) ≡ g = ap (λ (n : ℕ). digit_glyph true (n * 2 ^ (4 - w))) (sym is_v) ∙ ap (digit_glyph true) (sym is_d) ∙ sym is_g in
    hex_step bits w some is_w ∙ ap (λ (n : ℕ). n ∷ hex_of (drop w bits)) glyph ∙ ap (λ (r : List Bool). g ∷ hex_of r) (sym is_rest)

-- at the end of the loop
pub hex_done : (out whole : List ℕ) (bits : List Bool) → length bits ≤ 0 → out ++ hex_of bits ≡ whole → out ≡ whole
unfolding hex_of
hex_done out whole [] le so_far = sym (append-nil out) ∙ so_far
hex_done out whole (b ∷ bits) le so_far = absurd (omega arith)

pub same_lengths : (a b x y : List ℕ) → a ++ x ≡ b ++ y → length a + length x ≡ length b + length y
same_lengths a b x y e = sym (length-append a x) ∙ ap length e ∙ length-append b y
