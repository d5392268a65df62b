-- Each step keeps the rule of the places that come back.
use Rattle.std.proofs.Common.{◌≡◌, ◌⊎◌, inl, inr, ℕ, zero, suc, List, [], ◌∷◌, ◌++◌, set, sym, refl, ap, ◌∙◌, subst, ⊎_elim}
use Rattle.std.specs.Prelude.{All}
use Rattle.std.proofs.lemmas.List.Elements.{All-nil, All-push, All-from_recursion, recursion_from_All}
use mathlib.Core.Option.{some, some-ne-none, some-injective}
use lib.ListN.{get_elem?}
use Rattle.atomic_table.specs.Seated.{TableId}
use Rattle.crossbeam_queue.specs.Fifo.{Pushes, Pops, Forks}
use Rattle.crossbeam_queue.proofs.Lists.{at_set}
use Rattle.station_queue.specs.Returns.{AreOfOneQueue}

same_head : (x y : TableId) → x ∷ [] ≡ y ∷ [] → x ≡ y
same_head x y e = cc

not_empty : (x : TableId) (xs : List TableId) → x ∷ xs ≡ [] → ⊥
not_empty x xs e = cc

only : (pass : ℕ) (v : List TableId) → get_elem? ([] ∷ []) pass ≡ some v → v ≡ []
only zero v e = sym (some-injective [] v e)
only (suc pass) v e = absurd (some-ne-none v (sym e))

two : (pass : ℕ) (v : List TableId) (queue : TableId) → get_elem? ([] ∷ []) pass ≡ some v
    → (j : ℕ) (u : List TableId) → get_elem? (set ([] ∷ []) pass (queue ∷ []) ++ (queue ∷ []) ∷ []) j ≡ some u → u ≡ queue ∷ []
two zero v queue at zero u e = sym (some-injective (queue ∷ []) u e)
two zero v queue at (suc zero) u e = sym (some-injective (queue ∷ []) u e)
two zero v queue at (suc (suc j)) u e = absurd (some-ne-none u (sym e))
two (suc pass) v queue at j u e = absurd (some-ne-none v (sym at))

pub begins : AreOfOneQueue [] ([] ∷ [])
begins = inl (refl, refl)

-- the first pass becomes two, which know the queue
pub halves : (pass : ℕ) (v : List TableId) (queue : TableId) → v ≡ [] → Forks AreOfOneQueue pass v (queue ∷ []) (queue ∷ [])
halves pass v queue new items views h at = elim h [
  | inl x ↦ inr (
    queue,
    subst (All (λ y. y ≡ queue)) (sym x.0) (All-nil (λ y. y ≡ queue)),
    (λ j u e. two pass v queue (subst (λ (l : List (List TableId)). get_elem? l pass ≡ some v) x.1 at) j u
        (subst (λ (l : List (List TableId)). get_elem? (set l pass (queue ∷ []) ++ (queue ∷ []) ∷ []) j ≡ some u) x.1 e)),
  )
  | inr x ↦ absurd (not_empty x.0 [] (sym (x.2 pass v at) ∙ new))
]

-- a place is put in
pub gives : (n pass : ℕ) (v : List TableId) (x : TableId) → x ∷ [] ≡ v → Pushes AreOfOneQueue n pass v x (λ w. w ≡ v)
gives n pass v x is items views _ h at = (v, kept, refl)
  where
    kept : AreOfOneQueue (items ++ x ∷ []) (set views pass v)
    kept = elim h [
      | inl y ↦ absurd (not_empty x [] (is ∙ only pass v (subst (λ (l : List (List TableId)). get_elem? l pass ≡ some v) y.1 at)))
      | inr y ↦ inr (
        y.0,
        All-push (λ z. z ≡ y.0) items x y.1 (same_head x y.0 (is ∙ y.2 pass v at)),
        (λ j u e. ⊎_elim (λ z. sym z.1 ∙ y.2 pass v at) (λ z. y.2 j u z.1) (at_set views pass j v u e)),
      )
    ]

-- a place is taken out
pub gets : (pass : ℕ) (v : List TableId) → Pops AreOfOneQueue pass v (λ x w. (w ≡ v) × (x ∷ [] ≡ v))
gets pass v x items views h at = (v, kept, (refl, is))
  where
    kept : AreOfOneQueue items (set views pass v)
    kept = elim h [
      | inl y ↦ absurd (not_empty x items y.0)
      | inr y ↦ inr (
        y.0,
        All-from_recursion (λ z. z ≡ y.0) items (recursion_from_All (λ z. z ≡ y.0) (x ∷ items) y.1).1,
        (λ j u e. ⊎_elim (λ z. sym z.1 ∙ y.2 pass v at) (λ z. y.2 j u z.1) (at_set views pass j v u e)),
      )
    ]

    is : x ∷ [] ≡ v
    is = elim h [
      | inl y ↦ absurd (not_empty x items y.0)
      | inr y ↦ ap (λ z. z ∷ []) (recursion_from_All (λ z. z ≡ y.0) (x ∷ items) y.1).0 ∙ sym (y.2 pass v at)
    ]
