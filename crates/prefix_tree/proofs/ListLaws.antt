-- From one entry of the walk to the next.
use Rattle.std.proofs.Common.{◌≡◌, ℕ, ◌≤◌, None, arith}
use Rattle.std.specs.FinMap as map
use Rattle.std.specs.FinMap.{entries_sorted, len-entries}
use Rattle.identity.specs.Path.{path_cmp}
use Rattle.identity.specs.Inside.PathLaws.{paths_total}
use Rattle.prefix_tree.specs.Table.{PathMap}
use Rattle.prefix_tree.specs.Following.{AreRising}
use Rattle.prefix_tree.specs.Next.{followed}
use Rattle.prefix_tree.proofs.Following.{sorted_rise, all_one_by_one}

module _ {V : Type 0} where
  pub entries_rise : (m : PathMap V) → AreRising path_cmp (λ e. e.0) (map.entries m)
  entries_rise m = sorted_rise path_cmp (map.entries m) (entries_sorted m)

  pub all_followed : (m : PathMap V) (n : ℕ) → map.len m ≤ n → followed m n None ≡ map.entries m
  all_followed m n le = let h = len-entries m in all_one_by_one path_cmp paths_total (λ e. e.0) (map.entries m) n (entries_rise m) (omega (arith, le, h))
