-- A tree that may not be there yet.
use Rattle.std.proofs.Common.{◌≡◌, Option, None, sym, ap, ◌∙◌}
use Rattle.std.specs.Prelude.{IsSome, unwrap_or}
use Rattle.std.specs.Option.{is_some}
use Rattle.std.specs.FinMap as map
use mathlib.Core.Bool.{false≢true}
use Rattle.identity.specs.Path.{Path, path_cmp}
use Rattle.prefix_tree.specs.Table.{PathMap}
use Rattle.prefix_tree.proofs.NodeLaws.{remove_absent}

module _ {V : Type 0} (tree : Option (PathMap V)) (m : PathMap V) (p : Path) (view : unwrap_or tree map.empty ≡ m) (none : tree ≡ None) where
  -- no tree has no value
  pub nothing_in : map.get m p ≡ None
  nothing_in = ap (λ g. map.get g p) (sym view ∙ ap (λ t. unwrap_or t map.empty) none) ∙ map.get-empty path_cmp p

  pub nothing_out : m ≡ map.remove m p
  nothing_out = sym (remove_absent m p nothing_in)

  pub not_there : IsSome (map.get m p) → ⊥
  not_there there = false≢true (sym (ap is_some nothing_in) ∙ there)
