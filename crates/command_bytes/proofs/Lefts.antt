-- Bits from the left that are read are those that were written, and what was written is read again.
use Rattle.std.proofs.Common.{◌≡◌, ℕ, zero, suc, ◌-◌, ◌*◌, ◌^◌, ◌<◌, ◌≤◌, Bool, true, false, List, [], ◌∷◌, ◌++◌, length, take, drop, replicate, Some, refl, sym, ap, subst, ◌∙◌, arith}
use Rattle.std.specs.Prelude.{not}
use Rattle.std.specs.List.{list_all}
use Rattle.std.proofs.lemmas.List.{take_at, drop_at, take-append-drop, length-append, length-drop, length-take, length-replicate}
use Rattle.base.proofs.Numbers.{pow_256}
use Rattle.base.proofs.Options.{some_is}
use Rattle.identity.specs.Number.{num, number}
use Rattle.identity.specs.Inside.NumberLaws.{length-num, number-num, num-number, number-lt}
use Rattle.identity.specs.Packed.{AreBytes}
use Rattle.command_bytes.specs.Fields.{◌>>=◌, big, left, number_at, unpadded, left_at}
use Rattle.command_bytes.proofs.Numbers.{number_takes, number_small, number_again}
use Rattle.command_bytes.proofs.Steps.{Takes, bind_some, some_where, last_again}

-- ---- zeros

pub all_zeros : (bits : List Bool) → list_all not bits ≡ true → bits ≡ replicate (length bits) false
all_zeros [] e = refl
all_zeros (true ∷ bits) e = absurd cc
all_zeros (false ∷ bits) e = ap (λ (l : List Bool). false ∷ l) (all_zeros bits e)

pub zeros_all : (n : ℕ) → list_all not (replicate n false) ≡ true
zeros_all zero = refl
zeros_all (suc n) = zeros_all n

-- ---- bits without their padding

pub unpadded_takes : (n : ℕ) (bits some : List Bool) → n ≤ length bits → unpadded n bits ≡ Some some → (bits ≡ some ++ replicate (length bits - n) false) × (length some ≡ n)
unpadded_takes n bits some le e =
    let a = some_where (list_all not (drop n bits)) (Some (take n bits)) some e in
    let is : take n bits ≡ some = some_is (take n bits) some a.1 in
    let long : length (drop n bits) ≡ length bits - n = length-drop n bits in
    let zeros : drop n bits ≡ replicate (length bits - n) false = all_zeros (drop n bits) a.0 ∙ ap (λ (k : ℕ). replicate k false) long in
    (sym (take-append-drop n bits) ∙ ap (λ (l : List Bool). l ++ drop n bits) is ∙ ap (λ (l : List Bool). some ++ l) zeros, sym (ap length is) ∙ omega (arith, length-take n bits, le))

pub unpadded_again : (bits : List Bool) (k : ℕ) → unpadded (length bits) (bits ++ replicate k false) ≡ Some bits
unpadded_again bits k =
    rw (drop_at bits (replicate k false) (length bits) refl, take_at bits (replicate k false) (length bits) refl, zeros_all k) refl

-- ---- in bytes

-- the number that is written
filled : ℕ → List Bool → List Bool
filled w bits = bits ++ replicate (8 * w - length bits) false

length-filled : (w : ℕ) (bits : List Bool) → length bits ≤ 8 * w → length (filled w bits) ≡ 8 * w
unfolding filled
length-filled w bits le = length-append bits (replicate (8 * w - length bits) false) ∙ omega (arith, length-replicate (8 * w - length bits) false, le)

filled-small : (w : ℕ) (bits : List Bool) → length bits ≤ 8 * w → number (filled w bits) < 256 ^ w
filled-small w bits le = rw (pow_256 w) (subst (λ (n : ℕ). number (filled w bits) < 2 ^ n) (length-filled w bits le) (number-lt (filled w bits)))

filled-back : (w : ℕ) (bits : List Bool) → length bits ≤ 8 * w → num (8 * w) (number (filled w bits)) ≡ filled w bits
filled-back w bits le = subst (λ (n : ℕ). num n (number (filled w bits)) ≡ filled w bits) (length-filled w bits le) (num-number (filled w bits))

pub left_takes : (w n : ℕ) (bytes : List ℕ) (x : List Bool × List ℕ) → AreBytes bytes → n ≤ 8 * w → left_at w n bytes ≡ Some x → Takes bytes (left w x.0) x.1 × (length x.0 ≡ n)
unfolding left_at left
left_takes w n bytes x are le e =
    let a = bind_some (number_at w bytes) (λ value. unpadded n (num (8 * w) value.0) >>= λ bits. Some (bits, value.1)) x e in
    let value : ℕ × List ℕ = a.0 in
    let b = bind_some (unpadded n (num (8 * w) value.0)) (λ bits. Some (bits, value.1)) x a.2 in
    let is : (b.0, value.1) ≡ x = some_is (b.0, value.1) x b.2 in
    let text = number_takes w bytes value are a.1 in
    let small : value.0 < 2 ^ (8 * w) = rw (pow_256 w) at (number_small w bytes value are a.1) in
    let long : length (num (8 * w) value.0) ≡ 8 * w = length-num (8 * w) value.0 in
    let parts = unpadded_takes n (num (8 * w) value.0) b.0 (omega (arith, long, le)) b.1 in
    let whole : num (8 * w) value.0 ≡ b.0 ++ replicate (8 * w - length b.0) false = parts.0 ∙ ap (λ (k : ℕ). b.0 ++ replicate k false) (omega (arith, long, parts.1)) in
    let same : number (b.0 ++ replicate (8 * w - length b.0) false) ≡ value.0 = sym (ap number whole) ∙ number-num (8 * w) value.0 small in
    subst (λ (y : List Bool × List ℕ). Takes bytes (big w (number (y.0 ++ replicate (8 * w - length y.0) false))) y.1 × (length y.0 ≡ n)) is
    (record { is = text.0 ∙ ap (λ (v : ℕ). big w v ++ value.1) (sym same); are = text.1 }, parts.1)

pub left_again : (w : ℕ) (bits : List Bool) (rest : List ℕ) → length bits ≤ 8 * w → left_at w (length bits) (left w bits ++ rest) ≡ Some (bits, rest)
unfolding left_at left filled
left_again w bits rest le =
    last_again (λ value. unpadded (length bits) (num (8 * w) value.0) >>= λ bits. Some (bits, value.1)) (number_again w (number (filled w bits)) rest (filled-small w bits le))
    (last_again (λ bits. Some (bits, rest)) (ap (unpadded (length bits)) (filled-back w bits le) ∙ unpadded_again bits (8 * w - length bits)) refl)
