-- How high a tree is for its places, and when the first item of them ends.
use Rattle.std.proofs.Common.{◌≡◌, ℕ, zero, suc, ◌+◌, ◌<◌, ◌≤◌, ◌^◌, Bool, true, false, cond, refl, List, [], ◌∷◌, ◌++◌, length, sym, subst, arith, Option}
use Rattle.std.specs.Prelude.{◌*◌, ◌/◌, min, max, nat_lt}
use Rattle.std.specs.declared.boxed.Box.{Box}
use Rattle.std.proofs.Math.Nat.{pow-suc, max-le}
use Rattle.std.proofs.Math.Pow.{pow_mono}
use Rattle.std.proofs.lemmas.Bool.{ltb-true, ltb-false}
use Rattle.std.proofs.lemmas.List.{length-append}
use Rattle.mailbox.specs.declared.place.ItemPlace.{ItemPlace}
use Rattle.mailbox.specs.Inside.Places.{Branch, soonest, places_of, height_of, all_of, IsLow, IsNode}

step : (k a b m n : ℕ) → k ≤ a / 2 + 1 → k ≤ b / 2 + 1 → IsLow a m → IsLow b n → 2 ^ k ≤ (m + suc n) + 1
step zero a b m n first second low_a low_b = omega arith
step (suc k) a b m n first second low_a low_b =
    let one : 2 ^ k ≤ 2 ^ (a / 2) = pow_mono {i = k} {j = a / 2} (omega (arith, first)) in
    let two : 2 ^ k ≤ 2 ^ (b / 2) = pow_mono {i = k} {j = b / 2} (omega (arith, second)) in
    let twice : 2 ^ suc k ≡ 2 ^ k * 2 = pow-suc 2 k in
    omega (arith, one, two, twice, low_a, low_b)

-- a node over two low sides, neither more than a level higher than the other, is low
pub deeper : (a b m n : ℕ) → a ≤ b + 1 → b ≤ a + 1 → IsLow a m → IsLow b n → IsLow (max a b + 1) (m + suc n)
deeper a b m n first second low_a low_b =
    let near_a : max a b ≤ a + 1 = max-le (omega arith) second in
    let near_b : max a b ≤ b + 1 = max-le first (omega arith) in
    step ((max a b + 1) / 2) a b m n (omega (arith, near_a)) (omega (arith, near_b)) low_a low_b

-- a low tree is no higher than what is above all of so many places
pub lower : (height count above : ℕ) → IsLow height count → count + 1 < 2 ^ (above / 2) → height ≤ above
lower height count above low high =
    elim (nat_lt above height) as (λ b. nat_lt above height ≡ b → height ≤ above) [
      | true ↦ λ e.
          let less = ltb-true above height e in
          let much : 2 ^ (above / 2) ≤ 2 ^ (height / 2) = pow_mono {i = above / 2} {j = height / 2} (omega (arith, less)) in
          absurd (omega (arith, much, low, high))
      | false ↦ λ e. let most = ltb-false above height e in omega (arith, most)
    ] refl

-- what a search costs, by a height that is no lower
pub found_cost : (b : Bool) (new old height above : ℕ) → height ≤ above → new ≤ old + cond b (2 * height) 1 → new ≤ old + cond b (2 * above) 1
found_cost true new old height above most cost = omega (arith, most, cost)
found_cost false new old height above most cost = cost

-- no moment comes after the last number of 64 bits
most : (places : List ItemPlace) → soonest places ≤ 18446744073709551615
most [] = omega arith
most (p ∷ places) = let h = most places in grind (arith, h)

pub soonest-append : (xs ys : List ItemPlace) → soonest (xs ++ ys) ≡ min (soonest xs) (soonest ys)
soonest-append [] ys = let h = most ys in grind (arith, h)
soonest-append (x ∷ xs) ys = let h = soonest-append xs ys in grind (arith, h)

module _ {A : Type 0} (p : ItemPlace) (e l : Option (Box Branch A)) where
  pub counted : length (all_of p e l) ≡ length (places_of e) + suc (length (places_of l))
  counted = length-append (places_of e) (p ∷ places_of l)

  -- a node made of these sides
  pub made : (height least : ℕ) → height ≡ max (height_of e) (height_of l) + 1 →
      least ≡ min (min p.deadline (soonest (places_of e))) (soonest (places_of l)) → height_of e ≤ height_of l + 1 → height_of l ≤ height_of e + 1
      → IsLow (height_of e) (length (places_of e)) → IsLow (height_of l) (length (places_of l)) → length (places_of e) + length (places_of l) + 1 < 2 ^ 64 → IsNode height least p e l
  made height least tall soon first second low_e low_l few = record {
    tall = tall;
    soon = let parts = soonest-append (places_of e) (p ∷ places_of l) in grind (arith, soon, parts);
    even_earlier = first;
    even_later = second;
    low = subst (IsLow (max (height_of e) (height_of l) + 1)) (sym counted) (deeper (height_of e) (height_of l) (length (places_of e)) (length (places_of l)) first second low_e low_l);
    few = let count = counted in omega (arith, count, few);
  }
