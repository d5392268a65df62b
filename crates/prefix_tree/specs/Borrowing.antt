-- What a tree becomes once a borrow of one of its values ends.
use Rattle.std.specs.Prelude.{Option}
use Rattle.std.specs.Borrow.{LendsIf, MutBor, Fml, RattleType}
use Rattle.std.specs.FinMap as map
use Rattle.std.specs.declared.alloc.Allocator.{Ghosts}
use Rattle.identity.specs.Path.{Path}
use Rattle.prefix_tree.specs.Table.{PathMap}
use Rattle.prefix_tree.specs.contracts.tree.PrefixTree as rows

-- the map with the value that was last written through the borrow, under the path
abbrev pub with_last : {V : Type 0} → PathMap V → Path → V → PathMap V
with_last m path last = map.insert m path last

-- A tree of values V, kept by the allocator A.
module _ (V A : RattleType) (g : Ghosts A.Denot) where
  -- the tree gives a reference to the value under the path, if there is one; once that ends, the map has what was last written there
  abbrev pub BorrowsEntry : MutBor (PathMap V.Denot) → Path → Option (MutBor V.Denot) → Fml
  BorrowsEntry tree path value = LendsIf (rows.the_row V A g) V tree value (with_last tree.now path) tree.now
