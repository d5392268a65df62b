-- A number that is read is the number that was written, and what was written is read again.
use Rattle.std.proofs.Common.{◌≡◌, ℕ, zero, suc, ◌+◌, ◌*◌, ◌^◌, ◌<◌, ◌≤◌, Bool, true, false, cond, ltb, List, [], ◌∷◌, ◌++◌, length, take, drop, Some, None, refl, sym, subst, ◌∙◌, arith, inl, inr}
use Rattle.std.specs.Int.{byte_at, bytes_high_first}
use Rattle.std.proofs.lemmas.Bool.{cases_lt, ltb-false, le-ltb}
use Rattle.std.proofs.lemmas.List.{append-nil, drop_at, take-append-drop, length-append, length-take, get_or-drop, get_or-take, get_or_past}
use Rattle.std.proofs.lemmas.Nat.{same_from_place}
use Rattle.byteorder.specs.Endian.{big_from, big_number}
use Rattle.byteorder.specs.Numbers.{big_from-cons, big_from-lt, big_from-take, big_number-reads_back, length-bytes_high_first}
use Rattle.identity.specs.Packed.{AreBytes}
use Rattle.command_bytes.specs.Fields.{big, number_at}

pub bytes-drop : (n : ℕ) (bytes : List ℕ) → AreBytes bytes → AreBytes (drop n bytes)
bytes-drop n bytes are = λ i. rw get_or-drop (are (n + i))

pub bytes-take : (n : ℕ) (bytes : List ℕ) → AreBytes bytes → AreBytes (take n bytes)
bytes-take n bytes are = λ i.
    elim (cases_lt i n) [
      | inl lt ↦ rw (get_or-take n bytes i 0 lt) (are i)
      | inr le ↦ rw (get_or_past (take n bytes) i 0 (omega (arith, length-take n bytes))) (omega arith)
    ]

byte-small : (i n : ℕ) → byte_at i n < 2 ^ 8
byte-small zero n = omega arith
byte-small (suc i) n = omega arith

high-small : (w n : ℕ) → AreBytes (bytes_high_first w n)
high-small zero n i = omega arith
high-small (suc w) n zero = byte-small w n
high-small (suc w) n (suc i) = high-small w n i

-- a number's bytes are bytes
pub are-big : (w n : ℕ) → AreBytes (big w n)
unfolding big
are-big w n = high-small w n

-- so many bytes are those of one number
one_number : (w : ℕ) (xs ys : List ℕ) → length xs ≡ w → length ys ≡ w → AreBytes xs → AreBytes ys → big_from 0 w xs ≡ big_from 0 w ys → xs ≡ ys
one_number zero [] [] xw yw xis yis e = refl
one_number zero [] (y ∷ ys) xw yw xis yis e = absurd (omega (arith, yw))
one_number zero (x ∷ xs) ys xw yw xis yis e = absurd (omega (arith, xw))
one_number (suc w) [] ys xw yw xis yis e = absurd (omega (arith, xw))
one_number (suc w) (x ∷ xs) [] xw yw xis yis e = absurd (omega (arith, yw))
one_number (suc w) (x ∷ xs) (y ∷ ys) xw yw xis yis e =
    let xr : big_from 0 w xs < 256 ^ w = big_from-lt 0 w xs (λ i. xis (suc i)) in
    let yr : big_from 0 w ys < 256 ^ w = big_from-lt 0 w ys (λ i. yis (suc i)) in
    let both : x * 256 ^ w + big_from 0 w xs ≡ y * 256 ^ w + big_from 0 w ys = rw (← big_from-cons 0 w x xs, ← big_from-cons 0 w y ys) e in
    let parts = same_from_place x (big_from 0 w xs) y (big_from 0 w ys) (256 ^ w) xr yr both in
    let rest : xs ≡ ys = one_number w xs ys (omega (arith, xw)) (omega (arith, yw)) (λ i. xis (suc i)) (λ i. yis (suc i)) parts.1 in
    rw (parts.0, rest) refl

number-take : (w n : ℕ) (bytes : List ℕ) → big_from 0 w (take w bytes) ≡ big_from 0 w bytes
number-take w n bytes = big_from-take 0 w w bytes (omega arith)

-- the bytes that a number was read from are its text
pub big-read : (w : ℕ) (bytes : List ℕ) → AreBytes bytes → w ≤ length bytes → big w (big_number w bytes) ≡ take w bytes
unfolding big
big-read w bytes are le =
    let back : big_from 0 w (bytes_high_first w (big_from 0 w bytes)) ≡ big_from 0 w bytes = rw append-nil at (big_number-reads_back w (big_from 0 w bytes) [] (big_from-lt 0 w bytes are)) in
    one_number w (bytes_high_first w (big_from 0 w bytes)) (take w bytes) (length-bytes_high_first w (big_from 0 w bytes)) (omega (arith, length-take w bytes))
    (high-small w (big_from 0 w bytes)) (bytes-take w bytes are) (back ∙ sym (number-take w 0 bytes))

pub length-big : (w n : ℕ) → length (big w n) ≡ w
unfolding big
length-big w n = length-bytes_high_first w n

-- the last bytes of a number are its low ones
pub drop-big : (k w n : ℕ) → drop k (big (k + w) n) ≡ big w n
unfolding big
drop-big zero w n = let e : 0 + w ≡ w = omega arith in subst (λ (m : ℕ). bytes_high_first (0 + w) n ≡ bytes_high_first m n) e refl
drop-big (suc k) w n = let e : suc (k + w) ≡ suc k + w = omega arith in subst (λ (m : ℕ). drop (suc k) (bytes_high_first m n) ≡ bytes_high_first w n) e (drop-big k w n)

some_of : {A : Type 0} (b : Bool) (x y : A) → cond b None (Some x) ≡ Some y → (b ≡ false) × (x ≡ y)
some_of true x y e = absurd cc
some_of false x y e = (refl, cc)

-- what was read is the number's text and what is after it
pub number_takes : (w : ℕ) (bytes : List ℕ) (x : ℕ × List ℕ) → AreBytes bytes → number_at w bytes ≡ Some x → (bytes ≡ big w x.0 ++ x.1) × AreBytes x.1
unfolding number_at
number_takes w bytes x are e =
    let g = some_of (ltb (length bytes) w) (big_number w bytes, drop w bytes) x e in
    let long : w ≤ length bytes = ltb-false _ _ g.0 in
    subst (λ (y : ℕ × List ℕ). (bytes ≡ big w y.0 ++ y.1) × AreBytes y.1) g.1
    (rw (big-read w bytes are long) (sym (take-append-drop w bytes)), bytes-drop w bytes are)

pub number_small : (w : ℕ) (bytes : List ℕ) (x : ℕ × List ℕ) → AreBytes bytes → number_at w bytes ≡ Some x → x.0 < 256 ^ w
unfolding number_at
number_small w bytes x are e =
    let g = some_of (ltb (length bytes) w) (big_number w bytes, drop w bytes) x e in
    subst (λ (y : ℕ × List ℕ). y.0 < 256 ^ w) g.1 (big_from-lt 0 w bytes are)

pub number_again : (w n : ℕ) (rest : List ℕ) → n < 256 ^ w → number_at w (big w n ++ rest) ≡ Some (n, rest)
unfolding number_at big
number_again w n rest lt =
    let len : length (bytes_high_first w n) ≡ w = length-bytes_high_first w n in
    let long : ltb (length (bytes_high_first w n ++ rest)) w ≡ false = le-ltb _ _ (omega (arith, length-append (bytes_high_first w n) rest)) in
    rw (long, drop_at (bytes_high_first w n) rest w len, big_number-reads_back w n rest lt) refl
