-- The item after a key in a list, and all items that are found by going from each to the next.
use Rattle.std.specs.Prelude.{◌≡◌, ℕ, zero, suc, Bool, true, List, [], ◌∷◌, Option, Some, None}
use Rattle.std.specs.List.{AllPairs, find}
use Rattle.std.specs.Ordering.{is_lt}
use Rattle.std.specs.declared.cmp.Ordering.{Ordering}
use Rattle.std.specs.declared.cmp.Ordering.TheVariants.{Less}

-- whether the item's key comes after this one; each comes after none
abbrev pub is_after : {K X : Type 0} → (K → K → Ordering) → (X → K) → Option K → X → Bool
is_after cmp key None x = true
is_after cmp key (Some k) x = is_lt (cmp k (key x))

-- the first item after the key, or the first of all
abbrev pub next_of : {K X : Type 0} → (K → K → Ordering) → (X → K) → List X → Option K → Option X
next_of cmp key xs after = find (is_after cmp key after) xs

-- the keys rise, so that none occurs twice
abbrev pub AreRising : {K X : Type 0} → (K → K → Ordering) → (X → K) → List X → Type 0
AreRising cmp key xs = AllPairs (λ a b. cmp (key a) (key b) ≡ Less) xs

-- an item and then those that are found from it, or none where there is no item
abbrev pub then_on : {X : Type 0} → (X → List X) → Option X → List X
then_on on None = []
then_on on (Some x) = x ∷ on x

-- the items that are found by going from each to the next by its key, n of them at most
abbrev pub one_by_one : {K X : Type 0} → (Option K → Option X) → (X → K) → ℕ → Option K → List X
one_by_one next key zero after = []
one_by_one next key (suc n) after = then_on (λ x. one_by_one next key n (Some (key x))) (next after)
