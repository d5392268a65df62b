-- What it says that a path begins another.
use Rattle.std.proofs.Common.{◌≡◌, ◌<◌, ◌≤◌, Bool, true, false, cond, [], ◌∷◌, ◌++◌, Option, Some, None, length, refl, sym, ap, ◌∙◌, arith}
use mathlib.Core.Bool.{false≢true}
use Rattle.std.specs.Prelude.{not}
use Rattle.std.specs.Option.{option_or}
use Rattle.std.specs.Ordering.{eq_by_cmp}
use Rattle.identity.specs.Path.{Path, path_cmp, begins}
use Rattle.prefix_tree.specs.Inside.Paths.{common}

pub begins_self : (p : Path) → begins p p ≡ true
begins_self [] = refl
begins_self (true ∷ p) = begins_self p
begins_self (false ∷ p) = begins_self p

pub begins_trans : (p q r : Path) → begins p q ≡ true → begins q r ≡ true → begins p r ≡ true
begins_trans [] q r a b = refl
begins_trans (true ∷ p) [] r a b = absurd (false≢true a)
begins_trans (false ∷ p) [] r a b = absurd (false≢true a)
begins_trans (true ∷ p) (true ∷ q) [] a b = absurd (false≢true b)
begins_trans (false ∷ p) (false ∷ q) [] a b = absurd (false≢true b)
begins_trans (true ∷ p) (true ∷ q) (true ∷ r) a b = begins_trans p q r a b
begins_trans (true ∷ p) (true ∷ q) (false ∷ r) a b = absurd (false≢true b)
begins_trans (false ∷ p) (false ∷ q) (true ∷ r) a b = absurd (false≢true b)
begins_trans (false ∷ p) (false ∷ q) (false ∷ r) a b = begins_trans p q r a b
begins_trans (true ∷ p) (false ∷ q) r a b = absurd (false≢true a)
begins_trans (false ∷ p) (true ∷ q) r a b = absurd (false≢true a)

-- a path begins its extension by a bit
pub begins_push : (p : Path) (b : Bool) → begins p (p ++ b ∷ []) ≡ true
begins_push [] b = refl
begins_push (true ∷ p) b = begins_push p b
begins_push (false ∷ p) b = begins_push p b

pub side_begins : (p q : Path) (b : Bool) → begins (p ++ b ∷ []) q ≡ true → begins p q ≡ true
side_begins p q b e = begins_trans p (p ++ b ∷ []) q (begins_push p b) e

pub begins_length : (p q : Path) → begins p q ≡ true → length p ≤ length q
begins_length [] q e = omega arith
begins_length (true ∷ p) [] e = absurd (false≢true e)
begins_length (false ∷ p) [] e = absurd (false≢true e)
begins_length (true ∷ p) (true ∷ q) e = let h = begins_length p q e in omega (arith, h)
begins_length (false ∷ p) (false ∷ q) e = let h = begins_length p q e in omega (arith, h)
begins_length (true ∷ p) (false ∷ q) e = absurd (false≢true e)
begins_length (false ∷ p) (true ∷ q) e = absurd (false≢true e)

-- a beginning that is as long is all
pub begins_whole : (p q : Path) → begins p q ≡ true → length q ≤ length p → p ≡ q
begins_whole [] [] e le = refl
begins_whole [] (b ∷ q) e le = absurd (omega arith)
begins_whole (true ∷ p) [] e le = absurd (false≢true e)
begins_whole (false ∷ p) [] e le = absurd (false≢true e)
begins_whole (true ∷ p) (true ∷ q) e le = ap (λ (z : Path). true ∷ z) (begins_whole p q e (omega arith))
begins_whole (false ∷ p) (false ∷ q) e le = ap (λ (z : Path). false ∷ z) (begins_whole p q e (omega arith))
begins_whole (true ∷ p) (false ∷ q) e le = absurd (false≢true e)
begins_whole (false ∷ p) (true ∷ q) e le = absurd (false≢true e)

pub longer_side : (p q : Path) (b : Bool) → begins (p ++ b ∷ []) q ≡ true → length p < length q
longer_side [] [] true e = absurd (false≢true e)
longer_side [] [] false e = absurd (false≢true e)
longer_side [] (c ∷ q) b e = omega arith
longer_side (true ∷ p) [] b e = absurd (false≢true e)
longer_side (false ∷ p) [] b e = absurd (false≢true e)
longer_side (true ∷ p) (true ∷ q) b e = let h = longer_side p q b e in omega (arith, h)
longer_side (false ∷ p) (false ∷ q) b e = let h = longer_side p q b e in omega (arith, h)
longer_side (true ∷ p) (false ∷ q) b e = absurd (false≢true e)
longer_side (false ∷ p) (true ∷ q) b e = absurd (false≢true e)

-- what is at p, on its two sides and elsewhere
abbrev pub pick : {X : Type 0} → Path → Path → Option X → Option X → Option X → Option X
pick [] [] v a b = v
pick [] (false ∷ q) v a b = a
pick [] (true ∷ q) v a b = b
pick (c ∷ p) [] v a b = None
pick (true ∷ p) (true ∷ q) v a b = pick p q v a b
pick (true ∷ p) (false ∷ q) v a b = None
pick (false ∷ p) (true ∷ q) v a b = None
pick (false ∷ p) (false ∷ q) v a b = pick p q v a b

module _ {X : Type 0} where
  or_none : (v : Option X) → option_or v None ≡ v
  or_none None = refl
  or_none (Some x) = refl

  pub pick_is : (p q : Path) (v a b : Option X) → (begins (p ++ false ∷ []) q ≡ false → a ≡ None) → (begins (p ++ true ∷ []) q ≡ false → b ≡ None) →
      option_or (cond (eq_by_cmp path_cmp q p) v None) (option_or a b) ≡ pick p q v a b
  pick_is [] [] v a b h k = ap (λ z. option_or v (option_or z b)) (h refl) ∙ ap (λ z. option_or v z) (k refl) ∙ or_none v
  pick_is [] (false ∷ q) v a b h k = ap (λ z. option_or a z) (k refl) ∙ or_none a
  pick_is [] (true ∷ q) v a b h k = ap (λ z. option_or z b) (h refl)
  pick_is (true ∷ p) [] v a b h k = ap (λ z. option_or z b) (h refl) ∙ k refl
  pick_is (false ∷ p) [] v a b h k = ap (λ z. option_or z b) (h refl) ∙ k refl
  pick_is (true ∷ p) (true ∷ q) v a b h k = pick_is p q v a b h k
  pick_is (false ∷ p) (false ∷ q) v a b h k = pick_is p q v a b h k
  pick_is (true ∷ p) (false ∷ q) v a b h k = ap (λ z. option_or z b) (h refl) ∙ k refl
  pick_is (false ∷ p) (true ∷ q) v a b h k = ap (λ z. option_or z b) (h refl) ∙ k refl

  pub pick_here : (p : Path) (v a b : Option X) → pick p p v a b ≡ v
  pick_here [] v a b = refl
  pick_here (true ∷ p) v a b = pick_here p v a b
  pick_here (false ∷ p) v a b = pick_here p v a b

  pub pick_zero : (p q : Path) (v a b : Option X) → begins (p ++ false ∷ []) q ≡ true → pick p q v a b ≡ a
  pick_zero [] [] v a b e = absurd (false≢true e)
  pick_zero [] (false ∷ q) v a b e = refl
  pick_zero [] (true ∷ q) v a b e = absurd (false≢true e)
  pick_zero (true ∷ p) [] v a b e = absurd (false≢true e)
  pick_zero (false ∷ p) [] v a b e = absurd (false≢true e)
  pick_zero (true ∷ p) (true ∷ q) v a b e = pick_zero p q v a b e
  pick_zero (false ∷ p) (false ∷ q) v a b e = pick_zero p q v a b e
  pick_zero (true ∷ p) (false ∷ q) v a b e = absurd (false≢true e)
  pick_zero (false ∷ p) (true ∷ q) v a b e = absurd (false≢true e)

  pub pick_one : (p q : Path) (v a b : Option X) → begins (p ++ true ∷ []) q ≡ true → pick p q v a b ≡ b
  pick_one [] [] v a b e = absurd (false≢true e)
  pick_one [] (true ∷ q) v a b e = refl
  pick_one [] (false ∷ q) v a b e = absurd (false≢true e)
  pick_one (true ∷ p) [] v a b e = absurd (false≢true e)
  pick_one (false ∷ p) [] v a b e = absurd (false≢true e)
  pick_one (true ∷ p) (true ∷ q) v a b e = pick_one p q v a b e
  pick_one (false ∷ p) (false ∷ q) v a b e = pick_one p q v a b e
  pick_one (true ∷ p) (false ∷ q) v a b e = absurd (false≢true e)
  pick_one (false ∷ p) (true ∷ q) v a b e = absurd (false≢true e)

  pub pick_off : (p q : Path) (v a b : Option X) → begins p q ≡ false → pick p q v a b ≡ None
  pick_off [] q v a b e = absurd (false≢true (sym e))
  pick_off (true ∷ p) [] v a b e = refl
  pick_off (false ∷ p) [] v a b e = refl
  pick_off (true ∷ p) (true ∷ q) v a b e = pick_off p q v a b e
  pick_off (false ∷ p) (false ∷ q) v a b e = pick_off p q v a b e
  pick_off (true ∷ p) (false ∷ q) v a b e = refl
  pick_off (false ∷ p) (true ∷ q) v a b e = refl

  -- a change at the path, or on one side
  pub set_here : (p q : Path) (v a b o : Option X) (t : Bool) → t ≡ eq_by_cmp path_cmp q p → pick p q o a b ≡ cond t o (pick p q v a b)
  set_here [] [] v a b o t e = sym (ap (λ z. cond z o v) e)
  set_here [] (false ∷ q) v a b o t e = sym (ap (λ z. cond z o a) e)
  set_here [] (true ∷ q) v a b o t e = sym (ap (λ z. cond z o b) e)
  set_here (true ∷ p) [] v a b o t e = sym (ap (λ z. cond z o None) e)
  set_here (false ∷ p) [] v a b o t e = sym (ap (λ z. cond z o None) e)
  set_here (true ∷ p) (true ∷ q) v a b o t e = set_here p q v a b o t e
  set_here (false ∷ p) (false ∷ q) v a b o t e = set_here p q v a b o t e
  set_here (true ∷ p) (false ∷ q) v a b o t e = sym (ap (λ z. cond z o None) e)
  set_here (false ∷ p) (true ∷ q) v a b o t e = sym (ap (λ z. cond z o None) e)

  pub set_zero : (p q : Path) (v a b o : Option X) (t : Bool) → (t ≡ true → begins (p ++ false ∷ []) q ≡ true) → pick p q v (cond t o a) b ≡ cond t o (pick p q v a b)
  set_zero p q v a b o true h = pick_zero p q v o b (h refl)
  set_zero p q v a b o false h = refl

  pub set_one : (p q : Path) (v a b o : Option X) (t : Bool) → (t ≡ true → begins (p ++ true ∷ []) q ≡ true) → pick p q v a (cond t o b) ≡ cond t o (pick p q v a b)
  set_one p q v a b o true h = pick_one p q v a o (h refl)
  set_one p q v a b o false h = refl

-- what begins two paths
pub common_first : (p q : Path) → begins (common p q) p ≡ true
common_first [] q = refl
common_first (true ∷ p) [] = refl
common_first (false ∷ p) [] = refl
common_first (true ∷ p) (true ∷ q) = common_first p q
common_first (false ∷ p) (false ∷ q) = common_first p q
common_first (true ∷ p) (false ∷ q) = refl
common_first (false ∷ p) (true ∷ q) = refl

pub common_second : (p q : Path) → begins (common p q) q ≡ true
common_second [] q = refl
common_second (true ∷ p) [] = refl
common_second (false ∷ p) [] = refl
common_second (true ∷ p) (true ∷ q) = common_second p q
common_second (false ∷ p) (false ∷ q) = common_second p q
common_second (true ∷ p) (false ∷ q) = refl
common_second (false ∷ p) (true ∷ q) = refl

pub common_under : (r p q : Path) → begins r p ≡ true → begins r q ≡ true → begins r (common p q) ≡ true
common_under [] p q a b = refl
common_under (true ∷ r) [] q a b = absurd (false≢true a)
common_under (false ∷ r) [] q a b = absurd (false≢true a)
common_under (true ∷ r) (true ∷ p) [] a b = absurd (false≢true b)
common_under (false ∷ r) (false ∷ p) [] a b = absurd (false≢true b)
common_under (true ∷ r) (true ∷ p) (true ∷ q) a b = common_under r p q a b
common_under (false ∷ r) (false ∷ p) (false ∷ q) a b = common_under r p q a b
common_under (true ∷ r) (true ∷ p) (false ∷ q) a b = absurd (false≢true b)
common_under (false ∷ r) (false ∷ p) (true ∷ q) a b = absurd (false≢true b)
common_under (true ∷ r) (false ∷ p) q a b = absurd (false≢true a)
common_under (false ∷ r) (true ∷ p) q a b = absurd (false≢true a)

-- beyond what begins both, they don't go on with the same bit
pub common_parts : (p q : Path) (b : Bool) → begins (common p q ++ b ∷ []) p ≡ true → begins (common p q ++ b ∷ []) q ≡ true → ⊥
common_parts p q b a c = let h = begins_length _ _ (common_under (common p q ++ b ∷ []) p q a c) in absurd (longer (common p q) b h)
  where
    longer : (r : Path) (b : Bool) → length (r ++ b ∷ []) ≤ length r → ⊥
    longer [] b h = omega arith
    longer (c ∷ r) b h = longer r b (omega arith)

pub common_shorter : (p q : Path) → begins p q ≡ false → length (common p q) < length p
common_shorter [] q off = absurd (false≢true (sym off))
common_shorter (true ∷ p) [] off = omega arith
common_shorter (false ∷ p) [] off = omega arith
common_shorter (true ∷ p) (true ∷ q) off = let h = common_shorter p q off in omega (arith, h)
common_shorter (false ∷ p) (false ∷ q) off = let h = common_shorter p q off in omega (arith, h)
common_shorter (true ∷ p) (false ∷ q) off = omega arith
common_shorter (false ∷ p) (true ∷ q) off = omega arith

-- a longer path goes on with one bit or the other
pub other_side : (r q : Path) (b : Bool) → begins r q ≡ true → length r < length q → (begins (r ++ b ∷ []) q ≡ true → ⊥) → begins (r ++ not b ∷ []) q ≡ true
other_side [] [] b e lt apart = absurd (omega (arith, lt))
other_side [] (true ∷ q) true e lt apart = absurd (apart refl)
other_side [] (false ∷ q) true e lt apart = refl
other_side [] (true ∷ q) false e lt apart = refl
other_side [] (false ∷ q) false e lt apart = absurd (apart refl)
other_side (true ∷ r) [] b e lt apart = absurd (false≢true e)
other_side (false ∷ r) [] b e lt apart = absurd (false≢true e)
other_side (true ∷ r) (true ∷ q) b e lt apart = other_side r q b e (omega (arith, lt)) apart
other_side (false ∷ r) (false ∷ q) b e lt apart = other_side r q b e (omega (arith, lt)) apart
other_side (true ∷ r) (false ∷ q) b e lt apart = absurd (false≢true e)
other_side (false ∷ r) (true ∷ q) b e lt apart = absurd (false≢true e)
