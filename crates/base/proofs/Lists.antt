-- Lists: their elements, lengths and places.
use Rattle.std.proofs.Common.{◌≡◌, Some, ◌<◌, length, ℕ, List, zero, suc, ◌∷◌, arith, [], ◌++◌, false, replicate, refl, get_or, take, sym, ◌+◌, ap, ◌∙◌, length-append, true, Bool, cond, append_assoc}
use Rattle.std.proofs.Math.Seq.{take-suc}
use Rattle.std.proofs.lemmas.List.Elements.{All-tail, All-head}
use Rattle.std.specs.List.{AllByRecursion, AllZip, find, All}
use Rattle.std.specs.Prelude.{slice_get, set, IfSome}

-- a place at which there is an item is within the list
pub get_within : {X : Type 0} (xs : List X) (k : ℕ) (x : X) → slice_get xs k ≡ Some x → k < length xs
get_within [] k x e = absurd cc
get_within (y ∷ xs) zero x e = omega arith
get_within (y ∷ xs) (suc k) x e = omega (arith, get_within xs k x e)

pub all_append : {A : Type 0} (P : A → Type 0) → (xs ys : List A) → AllByRecursion P xs → AllByRecursion P ys → AllByRecursion P (xs ++ ys)
all_append P [] ys h k = k
all_append P (x ∷ xs) ys h k = (h.0, all_append P xs ys h.1 k)

pub zeros_get : (n i : ℕ) → get_or (replicate n false) i false ≡ false
zeros_get zero i = refl
zeros_get (suc n) zero = refl
zeros_get (suc n) (suc i) = zeros_get n i

-- the first so many, and the next one
pub take_one : {X : Type 0} (xs : List X) (k : ℕ) (x : X) → k < length xs → x ≡ get_or xs k x → take (k + 1) xs ≡ take k xs ++ x ∷ []
take_one xs k x lt is =
    let next : k + 1 ≡ suc k = omega arith in
    ap (λ n. take n xs) next ∙ take-suc xs k x lt ∙ ap (λ z. take k xs ++ z ∷ []) (sym is)

pub set_length : {X : Type 0} (xs : List X) (i : ℕ) (x : X) → length (set xs i x) ≡ length xs
set_length [] i x = refl
set_length (z ∷ zs) zero x = refl
set_length (z ∷ zs) (suc i) x = ap suc (set_length zs i x)

-- what stands before an item is shorter than all
pub fewer_before : {A : Type 0} (done : List A) (x : A) (rest all : List A) → done ++ x ∷ rest ≡ all → length done < length all
fewer_before done x rest all e = omega (arith, ap length e, length-append done (x ∷ rest))

pub some_beside : {X Y : Type 0} (xs : List X) (ys : List Y) (k : ℕ) (b : Y) → length ys ≡ length xs → slice_get ys k ≡ Some b → (a : X) × (slice_get xs k ≡ Some a)
some_beside xs [] k b e h = absurd cc
some_beside [] (y ∷ ys) k b e h = absurd (omega arith)
some_beside (x ∷ xs) (y ∷ ys) zero b e h = (x, refl)
some_beside (x ∷ xs) (y ∷ ys) (suc k) b e h = some_beside xs ys k b (omega arith) h

pub zip_push : {A B : Type 0} (R : A → B → Type 0) (xs : List A) (ys : List B) (x : A) (y : B) → AllZip R xs ys → R x y → AllZip R (xs ++ x ∷ []) (ys ++ y ∷ [])
zip_push R [] [] x y all this = (this, tt)
zip_push R [] (b ∷ ys) x y all this = absurd all
zip_push R (a ∷ xs) [] x y all this = absurd all
zip_push R (a ∷ xs) (b ∷ ys) x y all this = (all.0, zip_push R xs ys x y all.1 this)

pub nil_of_length : {X : Type 0} (es : List X) → length es ≡ 0 → es ≡ []
nil_of_length [] e = refl
nil_of_length (x ∷ es) e = absurd (omega (arith, e))

pub all_after : {X : Type 0} (P : X → Type 0) (xs ys : List X) → AllByRecursion P (xs ++ ys) → AllByRecursion P ys
all_after P [] ys all = all
all_after P (x ∷ xs) ys all = all_after P xs ys all.1

-- within the list there is an item
pub some_within : {X : Type 0} (xs : List X) (k : ℕ) → k < length xs → (x : X) × (slice_get xs k ≡ Some x)
some_within [] k lt = absurd (omega arith)
some_within (x ∷ xs) zero lt = (x, refl)
some_within (x ∷ xs) (suc k) lt = some_within xs k (omega arith)

pub zip_length : {X Y : Type 0} (R : X → Y → Type 0) (xs : List X) (ys : List Y) → AllZip R xs ys → length ys ≡ length xs
zip_length R [] [] all = refl
zip_length R [] (y ∷ ys) all = absurd all
zip_length R (x ∷ xs) [] all = absurd all
zip_length R (x ∷ xs) (y ∷ ys) all = ap suc (zip_length R xs ys all.1)

pub found_all : {X : Type 0} (P : X → Type 0) (test : X → Bool) (xs : List X) → All P xs → IfSome (find test xs) P
found_all P test [] all = tt
found_all P test (x ∷ xs) all = by (test x) (found_all P test xs (All-tail P x xs all))
  where
    by : (b : Bool) → IfSome (find test xs) P → IfSome (cond b (Some x) (find test xs)) P
    by true rest = All-head P x xs all
    by false rest = rest

pub regroup_four : (a b c d : List Bool) → ((a ++ b) ++ c) ++ d ≡ a ++ (b ++ (c ++ d))
regroup_four a b c d = simp append_assoc

pub regroup_five : (a b c d e : List Bool) → (((a ++ b) ++ c) ++ d) ++ e ≡ a ++ (b ++ (c ++ (d ++ e)))
regroup_five a b c d e = simp append_assoc
