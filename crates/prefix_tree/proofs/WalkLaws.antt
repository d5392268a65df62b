-- The entries of a node and of those below it, one after the other.
use Rattle.std.proofs.Common.{◌≡◌, false, List, [], ◌∷◌, ◌++◌, Some, None, refl, sym, ap, ◌∙◌}
use mathlib.Core.Bool.{false≢true}
use Rattle.std.proofs.lemmas.List.{append_assoc, append-nil, map-append}
use Rattle.std.specs.Prelude.{IsTrue, Result, Ok, Err, is_ok, if◌then◌else◌}
use Rattle.std.specs.Result.{is_err}
use Rattle.std.specs.FinMap as map
use Rattle.std.specs.Borrow.{Bor}
use Rattle.identity.specs.Path.{Path}
use Rattle.prefix_tree.specs.Walk.{seen}
use Rattle.prefix_tree.specs.declared.node.Node.TheInside.{Inside}
use Rattle.prefix_tree.specs.Inside.Around.{NodeModel, own_entry, table_of, node_view}
use Rattle.prefix_tree.proofs.NodeLaws.{at_is, read_here}
use Rattle.prefix_tree.proofs.StepLaws.{entries_node}

module _ {X : Type 0} where
  in_turn : (all own zero one first second third last : List X) → all ≡ own ++ (zero ++ one) → second ≡ first ++ own → third ≡ second ++ zero → last ≡ third ++ one → last ≡ first ++ all
  in_turn all own zero one first second third last is a b c =
      c ∙ ap (λ z. z ++ one) (b ∙ ap (λ z. z ++ zero) a) ∙ append_assoc (first ++ own) zero one ∙ append_assoc first own (zero ++ one) ∙ ap (λ z. first ++ z) (sym is)

  pub none_added : (first more : List X) → more ≡ [] → first ≡ first ++ more
  none_added first more is = sym (ap (λ z. first ++ z) is ∙ append-nil first)

module _ {V A : Type 0} (n : Inside V A) (d : NodeModel V) (seen : node_view n.at n.value n.zero n.one ≡ d) (sound : IsTrue d.sound) where
  -- the node's own entry, then those on its two sides
  pub walk_node : (o x y z : List (Path × V)) → x ≡ o ++ own_entry d.at (map.get d.table d.at) → y ≡ x ++ map.entries (table_of n.zero) →
      z ≡ y ++ map.entries (table_of n.one) → z ≡ o ++ map.entries d.table
  walk_node o x y z a b c = in_turn _ _ _ _ o x y z (entries_node n d seen sound) (a ∙ ap (λ v. o ++ own_entry d.at v) (read_here n d seen sound)) b c

  pub own_added : (o : List (Path × V)) (v : V) → n.value ≡ Some v → o ++ (n.at, v) ∷ [] ≡ o ++ own_entry d.at (map.get d.table d.at)
  own_added o v is = ap (λ p. o ++ (p, v) ∷ []) (at_is n d seen) ∙ ap (λ z. o ++ own_entry d.at z) (sym (read_here n d seen sound ∙ is))

  pub own_none : (o : List (Path × V)) → n.value ≡ None → o ≡ o ++ own_entry d.at (map.get d.table d.at)
  own_none o is = none_added o _ (ap (own_entry d.at) (read_here n d seen sound ∙ is))

pub seen-push : {V : Type 0} (es : List (Path × Bor V)) (e : Path × Bor V) → seen (es ++ e ∷ []) ≡ seen es ++ (e.0, e.1.now) ∷ []
seen-push es e = map-append (λ (x : Path × Bor _). (x.0, x.1.now)) es (e ∷ [])

pub if_ok_then : {T E X : Type 0} (r : Result T E) (x y : X) → is_err r ≡ false → (if is_ok r then x else y) ≡ x
if_ok_then (Ok t) x y e = refl
if_ok_then (Err t) x y e = absurd (false≢true (sym e))
