-- A node at which a value is changed, or dropped.
use Rattle.std.proofs.Common.{◌≡◌, Option, Some, None, false, true, [], ◌∷◌, ◌++◌}
use Rattle.std.specs.Prelude.{IsTrue}
use Rattle.identity.specs.Path.{Path, begins}
use Rattle.prefix_tree.specs.declared.node.Node.TheInside.{Inside}
use Rattle.prefix_tree.specs.Table.{PathMap}
use Rattle.prefix_tree.specs.Change.{with_value}
use Rattle.prefix_tree.specs.Inside.Around.{NodeModel, around, table_of, node_view, IsLoose, IsFirm}
use Rattle.prefix_tree.proofs.NodeLaws.{write_here, take_here, into_zero, into_one, out_of_zero, out_of_one, firm_put, loose_after}

module _ {V A : Type 0} (n : Inside V A) (d : NodeModel V) (seen : node_view n.at n.value n.zero n.one ≡ d) (sound : IsTrue d.sound) where
  pub changed_here : (q : Path) (w : Option V) → q ≡ d.at → around n.at w (table_of n.zero) (table_of n.one) ≡ with_value d.table q w
  changed_here q None e = take_here n d seen sound q e
  changed_here q (Some x) e = write_here n d seen sound q x e

  pub changed_zero : (m : PathMap V) (q : Path) (w : Option V) → IsTrue (begins (d.at ++ false ∷ []) q) → m ≡ with_value (table_of n.zero) q w →
      around n.at n.value m (table_of n.one) ≡ with_value d.table q w
  changed_zero m q None e new = out_of_zero n d seen sound m q e new
  changed_zero m q (Some x) e new = into_zero n d seen sound m q x e new

  pub changed_one : (m : PathMap V) (q : Path) (w : Option V) → IsTrue (begins (d.at ++ true ∷ []) q) → m ≡ with_value (table_of n.one) q w →
      around n.at n.value (table_of n.zero) m ≡ with_value d.table q w
  changed_one m q None e new = out_of_one n d seen sound m q e new
  changed_one m q (Some x) e new = into_one n d seen sound m q x e new

-- a node at which a value was changed still begins its keys
pub loose_changed : {V : Type 0} → (p : Path) (d n : NodeModel V) (k : Path) (w : Option V) → IsFirm p d → IsTrue (begins d.at k) → n.at ≡ d.at →
    n.table ≡ with_value d.table k w → IsTrue n.sound → IsLoose p n
loose_changed p d n k None firm begun at changed sound = loose_after p d n k firm begun at changed sound
loose_changed p d n k (Some x) firm begun at changed sound = (firm_put p d n k x firm begun at changed sound).loose
