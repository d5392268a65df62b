-- Bits have one packed form.
use Rattle.std.proofs.Common.{◌≡◌, ℕ, suc, Bool, false, List, [], ◌∷◌, ◌++◌, length, get_or, take, drop, refl, sym, ap, ◌∙◌, inl, inr, arith}
use Rattle.std.specs.Prelude.{◌==◌}
use Rattle.std.specs.List.{flat_map}
use Rattle.std.specs.Bool.{Decides}
use Rattle.std.proofs.lemmas.Bool.{cases_lt}
use Rattle.std.proofs.lemmas.Bool.Decides.{Decides-eqb, Decides-like}
use Rattle.std.proofs.lemmas.List.{get_or-take, ext_get_or, length-append}
use Rattle.std.proofs.Math.Seq.{take-append_seam, drop-append_seam}
use Rattle.identity.specs.Number.{num, number}
use Rattle.identity.specs.Inside.NumberLaws.{length-num, number-num}
use Rattle.identity.specs.Packed.{bits_of, IsPacked, AreBytes}
use Rattle.identity.proofs.Bytes.{length-bits_of}

prefix : (w : ℕ) (x y : List Bool) → length x ≡ w → take w (x ++ y) ≡ x
prefix w x y e = ap (λ (n : ℕ). take n (x ++ y)) (sym e) ∙ take-append_seam x y

following : (w : ℕ) (x y : List Bool) → length x ≡ w → drop w (x ++ y) ≡ y
following w x y e = ap (λ (n : ℕ). drop n (x ++ y)) (sym e) ∙ drop-append_seam x y

-- bytes are one where their bits are
pub bytes_from_bits : (a b : List ℕ) → AreBytes a → AreBytes b → bits_of a ≡ bits_of b → a ≡ b
unfolding bits_of
bytes_from_bits [] [] low high e = refl
bytes_from_bits [] (y ∷ b) low high e = absurd (omega (arith, ap length e, length-append (num 8 y) (flat_map (num 8) b), length-num 8 y))
bytes_from_bits (x ∷ a) [] low high e = absurd (omega (arith, ap length e, length-append (num 8 x) (flat_map (num 8) a), length-num 8 x))
bytes_from_bits (x ∷ a) (y ∷ b) low high e =
    let first : num 8 x ≡ num 8 y = sym (prefix 8 (num 8 x) (flat_map (num 8) a) (length-num 8 x)) ∙ ap (take 8) e ∙ prefix 8 (num 8 y) (flat_map (num 8) b) (length-num 8 y) in
    let rest : flat_map (num 8) a ≡ flat_map (num 8) b = sym (following 8 (num 8 x) (flat_map (num 8) a) (length-num 8 x)) ∙ ap (drop 8) e ∙
    following 8 (num 8 y) (flat_map (num 8) b) (length-num 8 y) in
    let head : x ≡ y = sym (number-num 8 x (low 0)) ∙ ap number first ∙ number-num 8 y (high 0) in
    let tail : a ≡ b = bytes_from_bits a b (λ i. low (suc i)) (λ i. high (suc i)) rest in
    cc

pub decided : (a b : List ℕ) (r : Bool) → AreBytes a → AreBytes b → Decides r (a ≡ b) → Decides r (bits_of a ≡ bits_of b)
decided a b r low high says = Decides-like r (λ e. ap bits_of e) (λ e. bytes_from_bits a b low high e) says

-- packed bytes of the same bits have the same bits throughout
pub whole_same : (a b : List ℕ) (len : ℕ) → IsPacked a len → IsPacked b len → take len (bits_of a) ≡ take len (bits_of b) → bits_of a ≡ bits_of b
whole_same a b len one other e =
    let room = one.room in let tight = one.tight in let room_too = other.room in let tight_too = other.tight in
    let same : length (bits_of a) ≡ length (bits_of b) = omega (arith, length-bits_of a, length-bits_of b) in
    ext_get_or false (bits_of a) (bits_of b) same (λ i lt. elim (cases_lt i len) [
      | inl inside ↦ sym (get_or-take len (bits_of a) i false inside) ∙ ap (λ (l : List Bool). get_or l i false) e ∙ get_or-take len (bits_of b) i false inside
      | inr past ↦ one.fill i past ∙ sym (other.fill i past)
    ])

-- bits that are kept as bytes and a length: where both are the same they are, and else not
module _ (a b : List ℕ) (m n : ℕ) (x y : List Bool) (one : IsPacked a m) (other : IsPacked b n) (is_one : take m (bits_of a) ≡ x) (is_other : take n (bits_of b) ≡ y) where
  pub by_bytes : (r : Bool) → m ≡ n → Decides r (bits_of a ≡ bits_of b) → Decides r (x ≡ y)
  by_bytes r lens says =
      let as_long : IsPacked b m = rw lens other in
      let is_long : take m (bits_of b) ≡ y = ap (λ (k : ℕ). take k (bits_of b)) lens ∙ is_other in
      Decides-like r (λ e. sym is_one ∙ ap (take m) e ∙ is_long) (λ e. whole_same a b m one as_long (is_one ∙ e ∙ sym is_long)) says

-- strings of different lengths are not the same
pub by_lengths : (m n : ℕ) (x y : List Bool) → m ≡ length x → n ≡ length y → (m ≡ n → ⊥) → Decides (m == n) (x ≡ y)
by_lengths m n x y short long other_len = Decides-like (m == n) (λ e. absurd (other_len e)) (λ e. short ∙ ap length e ∙ sym long) (Decides-eqb m n)

-- bits are packed in one way
pub packed_once : (a b : List ℕ) (len : ℕ) → AreBytes a → AreBytes b → IsPacked a len → IsPacked b len → take len (bits_of a) ≡ take len (bits_of b) → a ≡ b
packed_once a b len low high one other e = bytes_from_bits a b low high (whole_same a b len one other e)
