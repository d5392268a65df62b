-- What comes after the last of all comes after all.
use Rattle.std.proofs.Common.{◌≡◌, ℕ, ◌+◌, ◌-◌, ◌<◌, Bool, true, false, List, [], ◌∷◌, length, get_or, map, Some, refl, ap, sym, ◌∙◌, subst, arith, inl, inr}
use Rattle.std.specs.Prelude.{◌↔◌, ◌⊎◌, IsTrue, nat_lt}
use Rattle.std.specs.List.{All, AllPairs}
use Rattle.std.specs.Ordering.{nat_cmp}
use Rattle.std.specs.declared.cmp.Ordering.TheVariants.{Less}
use Rattle.std.specs.Cmp.Lexicographic.{slice_cmp}
use Rattle.std.proofs.lemmas.Bool.Decides.{nat_tests}
use Rattle.std.proofs.lemmas.Cmp.{nat_list_cmp_total}
use Rattle.std.proofs.Math.ListN.{get_or-map}
use Rattle.std.proofs.lemmas.List.{length-append, length-map, get_or-append-add}
use Rattle.mailbox.specs.declared.key.Key.{Key}
use Rattle.mailbox.specs.declared.place.ItemPlace.{ItemPlace}
use Rattle.mailbox.specs.Values.{Item, Mailed}
use Rattle.mailbox.specs.Order.{place_at, IsBefore, ComesLast, place_of}
use Rattle.mailbox.specs.Inside.Places.{EndsWith}

-- the place is before this number and key
abbrev IsUnder : ℕ → Key → ItemPlace → Type 0
IsUnder number k p = slice_cmp nat_cmp (place_at p.number p.key) (place_at number k) ≡ Less

-- the last of these, or one before it
by_test : (k n : ℕ) (b : Bool) → nat_lt k n ≡ b → k < n + 1 → (k ≡ n) ⊎ (k < n)
by_test k n true e below = inr (let less : k < n = grind (arith, nat_tests) in less)
by_test k n false e below = inl (let same : k ≡ n = grind (arith, nat_tests) in same)

last_or_before : (k n : ℕ) → k < n → (k ≡ n - 1) ⊎ (k < n - 1)
last_or_before k n below = by_test k (n - 1) (nat_lt k (n - 1)) refl (omega (arith, below))

module _ (ws : List Item) (order : List ItemPlace) (last : ItemPlace) (number : ℕ) (k : Key) (indexed : order ≡ map place_of ws) (some : 0 < length order)
    (is : (d : ItemPlace) → last ≡ get_or order (length order - 1) d) where
  -- it is the place of the last item
  last_place : (d : Item) → last ≡ place_of (get_or ws (length ws - 1) d)
  last_place d =
      let counted : length order ≡ length ws = ap length indexed ∙ length-map ws place_of in
      is (place_of d) ∙ ap (λ (n : ℕ). get_or order (n - 1) (place_of d)) counted ∙ ap (λ places. get_or places (length ws - 1) (place_of d)) indexed ∙ get_or-map place_of ws (length ws - 1) d

  one_under : AllPairs IsBefore ws → IsUnder number k last → (i : ℕ) (d : Item) → i < length ws → (i ≡ length ws - 1) ⊎ (i < length ws - 1) → IsUnder number k (place_of (get_or ws i d))
  one_under ordered under i d below (inl e) = subst (λ j. IsUnder number k (place_of (get_or ws j d))) (sym e) (subst (IsUnder number k) (last_place d) under)
  one_under ordered under i d below (inr less) =
      let a : Item = get_or ws i d in
      let z : Item = get_or ws (length ws - 1) d in
      nat_list_cmp_total.trans (place_at a.number a.key) (place_at z.number z.key) (place_at number k)
      (ordered i (length ws - 1) d less (omega (arith, below))) (subst (IsUnder number k) (last_place d) under)

  all_under : AllPairs IsBefore ws → IsUnder number k last → All (λ o. IsUnder number k (place_of o)) ws
  all_under ordered under i d below = one_under ordered under i d below (last_or_before i (length ws) below)

  last_under : All (λ o. IsUnder number k (place_of o)) ws → (d : Item) → IsUnder number k last
  last_under all d =
      let counted : length order ≡ length ws = ap length indexed ∙ length-map ws place_of in
      subst (IsUnder number k) (sym (last_place d)) (all (length ws - 1) d (omega (arith, some, counted)))

-- what is under the last is under all
pub next_to : (m : Mailed) (ws : List Item) (order : List ItemPlace) (last : ItemPlace) (number : ℕ) (k : Key) (b : Bool) → ws ≡ m.items →
    order ≡ map place_of ws → AllPairs IsBefore ws → 0 < length order → ((d : ItemPlace) → last ≡ get_or order (length order - 1) d) →
    (IsTrue b ↔ IsUnder number k last) → IsTrue b ↔ ComesLast m number k
next_to m [] order last number k b these indexed ordered some is tested = absurd (omega (arith, some, ap length indexed))
next_to m (w ∷ ws) order last number k b these indexed ordered some is tested = subst (λ os. IsTrue b ↔ All (λ o. IsUnder number k (place_of o)) os) these (
  (λ t. all_under (w ∷ ws) order last number k indexed some is ordered (tested.0 t)),
  (λ all. tested.1 (last_under (w ∷ ws) order last number k indexed some is all w)),
)

-- the same, of the place that all of them end with
pub next_to_last : (m : Mailed) (ws : List Item) (order : List ItemPlace) (last : ItemPlace) (number : ℕ) (k : Key) (b : Bool) → ws ≡ m.items →
    order ≡ map place_of ws → AllPairs IsBefore ws → EndsWith order (Some last) → (IsTrue b ↔ IsUnder number k last) → IsTrue b ↔ ComesLast m number k
next_to_last m ws order last number k b these indexed ordered ends tested =
    let counted : length order ≡ length ends.0 + 1 = ap length ends.1 ∙ length-append ends.0 (last ∷ []) in
    let at : length order - 1 ≡ length ends.0 + 0 = omega (arith, counted) in
    next_to m ws order last number k b these indexed ordered (omega (arith, counted)) (λ d. sym (get_or-append-add ends.0 (last ∷ []) 0 d) ∙ (λ i. get_or (sym ends.1 i) (sym at i) d)) tested
