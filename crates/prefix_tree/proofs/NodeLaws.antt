-- A node seen as a map, and its parts.
use Rattle.std.proofs.Common.{◌≡◌, ◌<◌, ◌≤◌, inl, inr, arith, length, Bool, true, false, cond, [], ◌∷◌, ◌++◌, Option, Some, None, refl, sym, ap, subst, ◌∙◌}
use Rattle.std.specs.Prelude.{IsTrue, Result, Ok, Err, OnOk, IfErr, IsSome}
use Rattle.std.proofs.lemmas.Bool.{cases_eq}
use Rattle.std.specs.Box.{with_value}
use Rattle.std.specs.FinMap as map
use Rattle.std.specs.FinMap.{get-empty, get-remove, same_map}
use Rattle.std.specs.Ordering.{eq_by_cmp}
use Rattle.std.specs.declared.boxed.Box.{Box}
use Rattle.identity.specs.Path.{Path, path_cmp, begins}
use Rattle.identity.specs.Inside.PathLaws.{paths_total, paths_exact, tie_exact}
use Rattle.prefix_tree.specs.Table.{PathMap}
use Rattle.prefix_tree.specs.declared.node.Node.TheInside.{Inside}
use Rattle.prefix_tree.specs.Visits.{is_place}
use Rattle.prefix_tree.specs.Inside.Around.{NodeModel, around, KeysUnder, table_of, IsLoose, IsFirm, IsUnder, node_view, leads_to}
use Rattle.prefix_tree.proofs.NodePlaces.{fits_when, place_inserted}
use Rattle.prefix_tree.proofs.Begins.{longer_side, begins_whole, begins_length}
use Rattle.prefix_tree.proofs.AroundLaws.{under_wider, under_empty, under_off, get_here, get_zero, get_one, keys_insert, keys_remove, insert_here}
use Rattle.prefix_tree.proofs.AroundLaws.{insert_zero, insert_one, remove_here, remove_zero, remove_one, around_empty}

module _ {V A : Type 0} where
  pub keys_of : (p : Path) (o : Option (Box (NodeModel V) A)) → IsUnder p o → KeysUnder p (table_of o)
  keys_of p None h = under_empty V p
  keys_of p (Some b) h = under_wider p b.value.at b.value.table h.loose.extends h.loose.keys

  -- the node that a link leads to
  pub firm_node : (p : Path) (o : Option (Box (NodeModel V) A)) (b : Box (NodeModel V) A) (w : NodeModel V) → o ≡ Some b → w ≡ b.value → IsUnder p o → IsFirm p w
  firm_node p o b w is at h = subst (λ z. IsFirm p z) (sym at) (subst (λ z. IsUnder p z) is h)

  pub table_after : (o : Option (Box (NodeModel V) A)) (b : Box (NodeModel V) A) (w : NodeModel V) → o ≡ Some b → w ≡ b.value → w.table ≡ table_of o
  table_after o b w is at = ap (λ (x : NodeModel V). x.table) at ∙ sym (ap table_of is)

  pub none_after : (o : Option (Box (NodeModel V) A)) (q : Path) → o ≡ None → map.get (table_of o) q ≡ None
  none_after o q is = ap (λ z. map.get (table_of z) q) is ∙ get-empty path_cmp q

module _ {V A : Type 0} (n : Inside V A) (d : NodeModel V) (seen : node_view n.at n.value n.zero n.one ≡ d) where
  pub at_is : n.at ≡ d.at
  at_is = ap (λ (x : NodeModel V). x.at) seen

  pub table_is : around n.at n.value (table_of n.zero) (table_of n.one) ≡ d.table
  table_is = ap (λ (x : NodeModel V). x.table) seen

  pub at_box : (x : NodeModel V) → d ≡ x → n.at ≡ x.at
  at_box x at = at_is ∙ ap (λ (z : NodeModel V). z.at) at

module _ {V A : Type 0} (n : Inside V A) (d : NodeModel V) (seen : node_view n.at n.value n.zero n.one ≡ d) (sound : IsTrue d.sound) where
  the_at : n.at ≡ d.at
  the_at = at_is n d seen

  the_table : around n.at n.value (table_of n.zero) (table_of n.one) ≡ d.table
  the_table = table_is n d seen

  pub fits : IsUnder (n.at ++ false ∷ []) n.zero × IsUnder (n.at ++ true ∷ []) n.one
  fits = fits_when n.at n.value n.zero n.one d seen sound

  pub zero_keys : KeysUnder (n.at ++ false ∷ []) (table_of n.zero)
  zero_keys = keys_of _ n.zero fits.0

  pub one_keys : KeysUnder (n.at ++ true ∷ []) (table_of n.one)
  one_keys = keys_of _ n.one fits.1

  pub read_here : map.get d.table d.at ≡ n.value
  read_here = (λ i. map.get (sym the_table i) (sym the_at i)) ∙ get_here n.at n.value _ _ zero_keys one_keys

  pub read_at : (q : Path) → q ≡ d.at → map.get d.table q ≡ n.value
  read_at q e = ap (map.get d.table) e ∙ read_here

  pub read_zero : (q : Path) → IsTrue (begins (d.at ++ false ∷ []) q) → map.get d.table q ≡ map.get (table_of n.zero) q
  read_zero q e = ap (λ m. map.get m q) (sym the_table) ∙ get_zero n.at n.value _ _ zero_keys one_keys q (ap (λ p. begins (p ++ false ∷ []) q) the_at ∙ e)

  pub read_one : (q : Path) → IsTrue (begins (d.at ++ true ∷ []) q) → map.get d.table q ≡ map.get (table_of n.one) q
  read_one q e = ap (λ m. map.get m q) (sym the_table) ∙ get_one n.at n.value _ _ zero_keys one_keys q (ap (λ p. begins (p ++ true ∷ []) q) the_at ∙ e)

  pub zero_under : IsUnder (d.at ++ false ∷ []) n.zero
  zero_under = subst (λ p. IsUnder (p ++ false ∷ []) n.zero) the_at fits.0

  pub one_under : IsUnder (d.at ++ true ∷ []) n.one
  one_under = subst (λ p. IsUnder (p ++ true ∷ []) n.one) the_at fits.1

  -- what an edit at the node, or on a side, makes of its map
  pub write_here : (q : Path) (x : V) → q ≡ d.at → around n.at (Some x) (table_of n.zero) (table_of n.one) ≡ map.insert d.table q x
  write_here q x e = insert_here n.at n.value _ _ zero_keys one_keys x ∙ (λ i. map.insert (the_table i) ((the_at ∙ sym e) i) x)

  pub take_here : (q : Path) → q ≡ d.at → around n.at None (table_of n.zero) (table_of n.one) ≡ map.remove d.table q
  take_here q e = remove_here n.at n.value _ _ zero_keys one_keys ∙ (λ i. map.remove (the_table i) ((the_at ∙ sym e) i))

  pub into_zero : (m : PathMap V) (q : Path) (x : V) → IsTrue (begins (d.at ++ false ∷ []) q) → m ≡ map.insert (table_of n.zero) q x → around n.at n.value m (table_of n.one) ≡ map.insert d.table q x
  into_zero m q x e new = ap (λ z. around n.at n.value z (table_of n.one)) new ∙
      insert_zero n.at n.value _ _ zero_keys one_keys q x (ap (λ p. begins (p ++ false ∷ []) q) the_at ∙ e) ∙ ap (λ z. map.insert z q x) the_table

  pub into_one : (m : PathMap V) (q : Path) (x : V) → IsTrue (begins (d.at ++ true ∷ []) q) → m ≡ map.insert (table_of n.one) q x → around n.at n.value (table_of n.zero) m ≡ map.insert d.table q x
  into_one m q x e new = ap (λ z. around n.at n.value (table_of n.zero) z) new ∙
      insert_one n.at n.value _ _ zero_keys one_keys q x (ap (λ p. begins (p ++ true ∷ []) q) the_at ∙ e) ∙ ap (λ z. map.insert z q x) the_table

  pub out_of_zero : (m : PathMap V) (q : Path) → IsTrue (begins (d.at ++ false ∷ []) q) → m ≡ map.remove (table_of n.zero) q → around n.at n.value m (table_of n.one) ≡ map.remove d.table q
  out_of_zero m q e new = ap (λ z. around n.at n.value z (table_of n.one)) new ∙
      remove_zero n.at n.value _ _ zero_keys one_keys q (ap (λ p. begins (p ++ false ∷ []) q) the_at ∙ e) ∙ ap (λ z. map.remove z q) the_table

  pub out_of_one : (m : PathMap V) (q : Path) → IsTrue (begins (d.at ++ true ∷ []) q) → m ≡ map.remove (table_of n.one) q → around n.at n.value (table_of n.zero) m ≡ map.remove d.table q
  out_of_one m q e new = ap (λ z. around n.at n.value (table_of n.zero) z) new ∙
      remove_one n.at n.value _ _ zero_keys one_keys q (ap (λ p. begins (p ++ true ∷ []) q) the_at ∙ e) ∙ ap (λ z. map.remove z q) the_table

pub one_here : {V : Type 0} (p : Path) (x : V) → around p (Some x) map.empty map.empty ≡ map.insert map.empty p x
one_here {V} p x = insert_here p None map.empty map.empty (under_empty V _) (under_empty V _) x ∙ ap (λ m. map.insert m p x) (around_empty V p)

-- one step down towards a path that goes on with the bit
module _ {V A : Type 0} (d : NodeModel V) (b : Bool) (o : Option (Box (NodeModel V) A)) (q : Path) (side : IsTrue (begins (d.at ++ b ∷ []) q))
    (under : IsUnder (d.at ++ b ∷ []) o) (table : (z : Path) → IsTrue (begins (d.at ++ b ∷ []) z) → map.get d.table z ≡ map.get (table_of o) z) where
  pub none_there : o ≡ None → map.get d.table q ≡ None
  none_there is = table q side ∙ none_after o q is

  module _ (x : Box (NodeModel V) A) (w : NodeModel V) (is : o ≡ Some x) (at : w ≡ x.value) where
    firm : IsFirm (d.at ++ b ∷ []) w
    firm = firm_node _ o x w is at under

    pub on_there : map.get w.table q ≡ map.get d.table q
    on_there = ap (λ m. map.get m q) (table_after o x w is at) ∙ sym (table q side)

    pub off_there : begins w.at q ≡ false → map.get d.table q ≡ None
    off_there off = sym on_there ∙ under_off w.at q w.table firm.loose.keys off

    pub longer_there : length d.at < length w.at
    longer_there = longer_side d.at w.at b firm.loose.extends

pub same_at : {V : Type 0} → (v w x : NodeModel V) → v ≡ x → w ≡ x → (q : Path) → begins w.at q ≡ begins v.at q
same_at {V = V} v w x a b q = ap (λ (d : NodeModel V). begins d.at q) (b ∙ sym a)

module _ {V A : Type 0} (n : Inside V A) (d : NodeModel V) (seen : node_view n.at n.value n.zero n.one ≡ d) (q : Path) (within : IsTrue (begins d.at q)) where
  same_length : length n.at ≡ length d.at
  same_length = ap length (at_is n d seen)

  -- the key is the node's own path, or longer
  pub whole_key : length n.at ≡ length q → q ≡ d.at
  whole_key e = let h = same_length in sym (begins_whole d.at q within (omega (arith, e, h)))

  pub longer_key : (length n.at ≡ length q → ⊥) → length n.at < length q
  longer_key apart =
      let h = same_length in
      let le : length d.at ≤ length q = begins_length d.at q within in
      elim (cases_eq (length n.at) (length q)) [
        | inl same ↦ absurd (apart same)
        | inr other ↦ omega (arith, h, le, other)
      ]

  pub side_is : (b c : Bool) → b ≡ c → IsTrue (begins (n.at ++ b ∷ []) q) → IsTrue (begins (d.at ++ c ∷ []) q)
  side_is b c e goes = subst (λ (z : Bool). IsTrue (begins (d.at ++ z ∷ []) q)) e (subst (λ (p : Path). IsTrue (begins (p ++ b ∷ []) q)) (at_is n d seen) goes)

pub off_link : {V A : Type 0} → (p q : Path) (o : Option (Box (NodeModel V) A)) → IsUnder p o → leads_to o q ≡ false → map.get (table_of o) q ≡ None
off_link p q None under off = get-empty path_cmp q
off_link p q (Some b) under off = under_off b.value.at q b.value.table under.loose.keys off

pub on_link : {V A : Type 0} → (q : Path) (o : Option (Box (NodeModel V) A)) (b : Box (NodeModel V) A) → o ≡ Some b → leads_to o q ≡ true → IsTrue (begins b.value.at q)
on_link q o b is on = ap (λ z. leads_to z q) (sym is) ∙ on

pub same_box : {V A : Type 0} → (o : Option (Box (NodeModel V) A)) (b : Box (NodeModel V) A) (n d : NodeModel V) → o ≡ Some b → n ≡ d → d ≡ b.value → Some (with_value b n) ≡ o
same_box o b n d is same at = ap (λ w. Some (with_value b w)) (same ∙ at) ∙ sym is

-- a firm node stays firm where a key that it begins is put in
pub firm_put : {V : Type 0} → (p : Path) (d n : NodeModel V) (k : Path) (x : V) → IsFirm p d → IsTrue (begins d.at k) → n.at ≡ d.at → n.table ≡ map.insert d.table k x → IsTrue n.sound → IsFirm p n
firm_put p d n k x firm begun at put sound = record {
  loose = record {
    extends = ap (begins p) at ∙ firm.loose.extends;
    keys = subst (λ z. KeysUnder z n.table) (sym at) (subst (λ m. KeysUnder d.at m) (sym put) (keys_insert d.at d.table firm.loose.keys k begun x));
    sound = sound;
  };
  place = ap (is_place n.table) at ∙ place_inserted d.table n.table k x d.at put firm.place;
}

pub firm_after : {V E T : Type 0} → (p : Path) (r : Result T E) (d n : NodeModel V) (k : Path) (x : V) (back : E → Type 0) → IsFirm p d →
    IsTrue (begins d.at k) → n.at ≡ d.at → OnOk r (n.table ≡ map.insert d.table k x) → IfErr r (λ b. back b × (n ≡ d)) → IsTrue n.sound → IsFirm p n
firm_after p (Ok t) d n k x back firm begun at ok err sound = firm_put p d n k x firm begun at ok sound
firm_after p (Err e) d n k x back firm begun at ok err sound = subst (λ z. IsFirm p z) (sym err.1) firm

-- a node from which a key is taken still begins its keys
pub loose_after : {V : Type 0} → (p : Path) (d n : NodeModel V) (k : Path) → IsFirm p d → IsTrue (begins d.at k) → n.at ≡ d.at → n.table ≡ map.remove d.table k → IsTrue n.sound → IsLoose p n
loose_after p d n k firm begun at gone sound = record {
  sound = sound;
  extends = ap (begins p) at ∙ firm.loose.extends;
  keys = subst (λ z. KeysUnder z n.table) (sym at) (subst (λ m. KeysUnder d.at m) (sym gone) (keys_remove d.at d.table firm.loose.keys k begun));
}

pub is_there : {X : Type 0} {a b : Option X} → a ≡ b → IsSome b → IsSome a
is_there e some = subst (λ o. IsSome o) (sym e) some

same_unless : {V : Type 0} (b : Bool) (x y : Option V) → (b ≡ true → y ≡ None) → cond b None y ≡ y
same_unless true x y h = sym (h refl)
same_unless false x y h = refl

-- to remove what is not there changes nothing
pub remove_absent : {V : Type 0} (m : PathMap V) (p : Path) → map.get m p ≡ None → map.remove m p ≡ m
remove_absent m p none = same_map paths_total paths_exact _ _ (λ q.
    get-remove paths_total m p q ∙ same_unless (eq_by_cmp path_cmp q p) None (map.get m q) (λ same. ap (map.get m) (tie_exact q p same) ∙ none))

pub begins_box : {V : Type 0} → (d w : NodeModel V) (q : Path) → d ≡ w → IsTrue (begins w.at q) → IsTrue (begins d.at q)
begins_box {V = V} d w q at on = ap (λ (z : NodeModel V). begins z.at q) at ∙ on
