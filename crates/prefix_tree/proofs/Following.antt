-- From each item of a list to the next.
use Rattle.std.proofs.Common.{◌≡◌, ℕ, zero, suc, ◌<◌, ◌≤◌, length, get_or, arith, Bool, true, false, cond, List, [], ◌∷◌, ◌++◌, Option, Some, None, refl, sym, ap, subst, ◌∙◌}
use Rattle.std.proofs.lemmas.List.{append_assoc}
use Rattle.std.proofs.lemmas.List.Kept.{AllPairs-cons}
use Rattle.std.proofs.lemmas.List.Elements.{All-nil, All-cons}
use Rattle.std.proofs.lemmas.Cmp.{tied_itself}
use Rattle.std.specs.Prelude.{◌&&◌, T}
use Rattle.std.specs.List.{All}
use Rattle.std.specs.Cmp.{IsTotalOrder}
use Rattle.std.specs.Ordering.{is_lt, ordering_reverse}
use Rattle.std.specs.declared.cmp.Ordering.{Ordering}
use Rattle.std.specs.declared.cmp.Ordering.TheVariants.{Less}
use Rattle.std.specs.FinMap.{is_sorted}
use Rattle.std.specs.FinMap.Entries.{below_all}
use Rattle.base.proofs.Bools.{less_if}
use Rattle.prefix_tree.specs.Following.{next_of, AreRising, then_on, one_by_one}

first : (a b : Bool) → T (a && b) → T a
first true b p = tt
first false b p = p

second : (a b : Bool) → T (a && b) → T b
second true b p = p
second false b p = absurd p

module _ {K X : Type 0} (cmp : K → K → Ordering) where
  -- the entries of a map rise by their keys
  pub sorted_rise : (es : List (K × X)) → T (is_sorted cmp es) → AreRising cmp (λ e. e.0) es
  sorted_rise [] h = λ i j d lt within. absurd (omega (arith, within))
  sorted_rise (e ∷ es) h = AllPairs-cons (λ a b. cmp a.0 b.0 ≡ Less) e es (below es (first _ _ h)) (sorted_rise es (second _ _ h))
    where
      below : (fs : List (K × X)) → T (below_all cmp e.0 fs) → All (λ f. cmp e.0 f.0 ≡ Less) fs
      below [] h = All-nil (λ f. cmp e.0 f.0 ≡ Less)
      below (f ∷ fs) h = All-cons (λ f. cmp e.0 f.0 ≡ Less) f fs (less_if _ (first _ _ h)) (below fs (second _ _ h))

module _ {K X : Type 0} (cmp : K → K → Ordering) (total : IsTotalOrder cmp) (key : X → K) where
  rest_rises : (x : X) (xs : List X) → AreRising cmp key (x ∷ xs) → AreRising cmp key xs
  rest_rises x xs h i j d lt within = h (suc i) (suc j) d (omega (arith, lt)) (omega (arith, within))

  there : (cs bs : List X) (e d : X) → get_or (cs ++ e ∷ bs) (length cs) d ≡ e
  there [] bs e d = refl
  there (c ∷ cs) bs e d = there cs bs e d

  long : (cs bs : List X) (e : X) → length cs < length (cs ++ e ∷ bs)
  long [] bs e = omega arith
  long (c ∷ cs) bs e = let h = long cs bs e in omega (arith, h)

  not_before : (x y : X) → cmp (key x) (key y) ≡ Less → is_lt (cmp (key y) (key x)) ≡ false
  not_before x y less = ap is_lt (total.antisymm (key y) (key x) ∙ ap ordering_reverse less)

  -- in a list whose keys rise, the first item after one of its keys is the one that is next
  next_there : (cs bs : List X) (e : X) → AreRising cmp key (cs ++ e ∷ bs) → next_of cmp key (cs ++ e ∷ bs) (Some (key e)) ≡ next_of cmp key bs None
  next_there [] bs e h = ap (λ t. cond t (Some e) (next_of cmp key bs (Some (key e)))) (ap is_lt (tied_itself total (key e))) ∙ beyond bs h
    where
      beyond : (bs : List X) → AreRising cmp key (e ∷ bs) → next_of cmp key bs (Some (key e)) ≡ next_of cmp key bs None
      beyond [] h = refl
      beyond (b ∷ bs) h = ap (λ t. cond t (Some b) (next_of cmp key bs (Some (key e)))) (ap is_lt (h 0 1 e (omega arith) (omega arith)))
  next_there (a ∷ cs) bs e h =
      let before : cmp (key a) (key e) ≡ Less = subst (λ z. cmp (key a) (key z) ≡ Less) (there cs bs e a) (h 0 (suc (length cs)) a (omega arith) (let l = long cs bs e in omega (arith, l))) in
      ap (λ t. cond t (Some a) (next_of cmp key (cs ++ e ∷ bs) (Some (key e)))) (not_before a e before) ∙ next_there cs bs e (rest_rises a (cs ++ e ∷ bs) h)

  -- from where the items bs are left
  follow : (xs : List X) → AreRising cmp key xs → (n : ℕ) (after : Option K) (cs bs : List X) → xs ≡ cs ++ bs →
      next_of cmp key xs after ≡ next_of cmp key bs None → length bs ≤ n → one_by_one (next_of cmp key xs) key n after ≡ bs
  follow xs rise zero after cs [] is next le = refl
  follow xs rise zero after cs (b ∷ bs) is next le = absurd (omega (arith, le))
  follow xs rise (suc n) after cs [] is next le = ap (then_on (λ x. one_by_one (next_of cmp key xs) key n (Some (key x)))) next
  follow xs rise (suc n) after cs (b ∷ bs) is next le =
      ap (then_on (λ x. one_by_one (next_of cmp key xs) key n (Some (key x)))) next
      ∙ ap (λ (es : List X). b ∷ es) (follow xs rise n (Some (key b)) (cs ++ b ∷ []) bs (is ∙ sym (append_assoc cs (b ∷ []) bs))
      (ap (λ ys. next_of cmp key ys (Some (key b))) is ∙ next_there cs bs b (subst (AreRising cmp key) is rise)) (omega (arith, le)))

  pub all_one_by_one : (xs : List X) (n : ℕ) → AreRising cmp key xs → length xs ≤ n → one_by_one (next_of cmp key xs) key n None ≡ xs
  all_one_by_one xs n rise le = follow xs rise n None [] xs refl refl le
