-- How many entries a map has after a change, for those who keep a count beside a map.
use Rattle.std.proofs.Common.{◌≡◌, ℕ, zero, suc, ◌+◌, ◌-◌, cond, Option, Some, None, refl, sym, ap, ◌∙◌, arith}
use Rattle.std.specs.Prelude.{OnSome, IfNone}
use Rattle.std.specs.Option.{is_some}
use Rattle.std.specs.FinMap as map
use Rattle.std.specs.FinMap.{get-empty, len-insert, len-remove, empty_of_len}
use mathlib.Core.Bool.{false≢true}
use Rattle.identity.specs.Path.{Path, path_cmp}
use Rattle.identity.specs.Inside.PathLaws.{paths_total}
use Rattle.prefix_tree.specs.Table.{PathMap}

module _ {V : Type 0} where
  pub len_over : (m n : PathMap V) (p : Path) (v x : V) → Some v ≡ map.get m p → n ≡ map.insert m p x → map.len n ≡ map.len m
  len_over m n p v x there is = ap map.len is ∙ len-insert paths_total m p x ∙ ap (λ o. cond (is_some o) (map.len m) (map.len m + 1)) (sym there)

  pub len_new : (m n : PathMap V) (p : Path) (x : V) → None ≡ map.get m p → n ≡ map.insert m p x → map.len n ≡ map.len m + 1
  len_new m n p x absent is = ap map.len is ∙ len-insert paths_total m p x ∙ ap (λ o. cond (is_some o) (map.len m) (map.len m + 1)) (sym absent)

  -- a replacement, if there is something to replace
  pub len_replaced : (m n : PathMap V) (p : Path) (x : V) (before : Option V) →
      before ≡ map.get m p → OnSome before (n ≡ map.insert m p x) → IfNone before (n ≡ m) → map.len n ≡ map.len m
  len_replaced m n p x None before there absent = ap map.len absent
  len_replaced m n p x (Some v) before there absent = len_over m n p v x before there

  -- a removal, where there is an entry and where there is none
  pub len_gone : (m n : PathMap V) (p : Path) (v : V) → Some v ≡ map.get m p → n ≡ map.remove m p → map.len m ≡ map.len n + 1
  len_gone m n p v there is =
      let less : map.len n ≡ map.len m - 1 = ap map.len is ∙ len-remove paths_total m p ∙ ap (λ o. cond (is_some o) (map.len m - 1) (map.len m)) (sym there) in
      one_more (map.len m) (map.len n) less
      (λ none. false≢true (ap is_some (sym (get-empty path_cmp p) ∙ ap (λ k. map.get k p) (sym (empty_of_len m none)) ∙ sym there)))
    where
      one_more : (k l : ℕ) → l ≡ k - 1 → (k ≡ 0 → ⊥) → k ≡ l + 1
      one_more zero l less never = absurd (never refl)
      one_more (suc k) l less never = omega (arith, less)

  pub len_same : (m n : PathMap V) (p : Path) → None ≡ map.get m p → n ≡ map.remove m p → map.len n ≡ map.len m
  len_same m n p absent is = ap map.len is ∙ len-remove paths_total m p ∙ ap (λ o. cond (is_some o) (map.len m - 1) (map.len m)) (sym absent)
