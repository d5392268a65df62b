-- How many nodes there are beside the entries.
use Rattle.std.proofs.Common.{◌≡◌, ℕ, ◌+◌, ◌-◌, ◌*◌, ◌^◌, ◌<◌, ◌≤◌, Bool, true, false, cond, List, [], ◌∷◌, ◌++◌, length, refl, sym, ap, subst, ◌∙◌, arith}
use mathlib.Core.Bool.{false≢true}
use Rattle.std.specs.Prelude.{IsTrue, ◌&&◌, ◌||◌}
use Rattle.std.specs.Option.{is_some}
use Rattle.std.specs.FinMap as map
use Rattle.std.proofs.Math.Pow.{pow_mono}
use Rattle.std.proofs.lemmas.Nat.{pow-add}
use Rattle.prefix_tree.specs.declared.node.Node.TheInside.{Inside}
use Rattle.prefix_tree.specs.Inside.Around.{NodeModel, table_of, node_view}
use Rattle.prefix_tree.specs.Visits.{is_place}
use Rattle.prefix_tree.proofs.JoinLaws.{place_parts}
use Rattle.prefix_tree.proofs.NodeLaws.{table_is, zero_keys, one_keys}
use Rattle.prefix_tree.proofs.OrderLaws.{len_around}

count_full : (v l r : Bool) (a b x y n : ℕ) → (v || l && r) ≡ true → n ≡ cond v 1 0 + (x + y) → a ≤ 2 * x → b ≤ 2 * y → (IsTrue l → a + 1 ≤ 2 * x) → (IsTrue r → b + 1 ≤ 2 * y) → 1 + a + b + 1 ≤ 2 * n
count_full true l r a b x y n e is p q f g = omega (arith, is, p, q)
count_full false true true a b x y n e is p q f g = let h = f refl in let k = g refl in omega (arith, is, h, k)
count_full false true false a b x y n e is p q f g = absurd (false≢true e)
count_full false false r a b x y n e is p q f g = absurd (false≢true e)

count_any : (v : Bool) (a b x y n : ℕ) → n ≡ cond v 1 0 + (x + y) → a ≤ 2 * x → b ≤ 2 * y → 1 + a + b ≤ 2 * n + 1
count_any true a b x y n is p q = omega (arith, is, p, q)
count_any false a b x y n is p q = omega (arith, is, p, q)

pub twice : (k a b : ℕ) → k ≤ 48 → a < 2 ^ (48 - k) → b < 2 ^ (48 - k) → 1 + a + b < 2 ^ (49 - k)
twice k a b le p q =
    let e : 48 - k + 1 ≡ 49 - k = omega (arith, le) in
    let d : 2 ^ (48 - k + 1) ≡ 2 ^ (48 - k) * 2 ^ 1 = pow-add 2 (48 - k) 1 in
    subst (λ m. 1 + a + b < 2 ^ m) e (rw (d) (omega (arith, p, q)))

pub fits_below : (k n a : ℕ) → k + 1 ≤ n → n ≤ 48 → a < 2 ^ (49 - n) → a < 2 ^ (48 - k)
fits_below k n a le top p = let h : 2 ^ (49 - n) ≤ 2 ^ (48 - k) = pow_mono (omega (arith, le, top)) in omega (arith, h, p)

pub fits_word : (k a : ℕ) → a < 2 ^ (49 - k) → a < 2 ^ 64
fits_word k a p = let le : 49 - k ≤ 64 = omega arith in let h : 2 ^ (49 - k) ≤ 2 ^ 64 = pow_mono {j = 64} le in omega (arith, h, p)

module _ {V A : Type 0} (n : Inside V A) (d : NodeModel V) (seen : node_view n.at n.value n.zero n.one ≡ d) (sound : IsTrue d.sound) where
  node_len : map.len d.table ≡ cond (is_some n.value) 1 0 + (map.len (table_of n.zero) + map.len (table_of n.one))
  node_len = sym (ap map.len (table_is n d seen)) ∙ len_around n.at n.value _ _ (zero_keys n d seen sound) (one_keys n d seen sound)

  pub few_nodes : (a b : ℕ) → a ≤ 2 * map.len (table_of n.zero) → b ≤ 2 * map.len (table_of n.one) → 1 + a + b ≤ 2 * map.len d.table + 1
  few_nodes a b p q = count_any (is_some n.value) a b _ _ _ node_len p q

  pub full_nodes : (a b : ℕ) → IsTrue (is_place d.table d.at) → a ≤ 2 * map.len (table_of n.zero) → b ≤ 2 * map.len (table_of n.one) →
      (IsTrue (is_some n.zero) → a + 1 ≤ 2 * map.len (table_of n.zero)) → (IsTrue (is_some n.one) → b + 1 ≤ 2 * map.len (table_of n.one)) →
      1 + a + b + 1 ≤ 2 * map.len d.table
  full_nodes a b full p q f g = count_full (is_some n.value) (is_some n.zero) (is_some n.one) a b _ _ _ (sym (place_parts n d seen sound) ∙ full) node_len p q f g

pub length_push : (p : List Bool) (b : Bool) → length (p ++ b ∷ []) ≡ length p + 1
length_push [] b = refl
length_push (c ∷ p) b = let h = length_push p b in omega (arith, h)
