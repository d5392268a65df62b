-- One step down: what is visited, and what links may be changed.
use Rattle.std.proofs.Common.{◌≡◌, ℕ, ◌+◌, Bool, true, false, cond, [], ◌∷◌, ◌++◌, Option, Some, None, refl, sym, ap, subst, ◌∙◌}
use Rattle.std.specs.Prelude.{IsTrue, ◌&&◌}
use Rattle.std.specs.Option.{is_some}
use Rattle.std.specs.FinMap as map
use Rattle.std.specs.declared.boxed.Box.{Box}
use Rattle.identity.specs.Path.{Path, begins}
use Rattle.prefix_tree.specs.Table.{PathMap}
use Rattle.prefix_tree.specs.declared.node.Node.TheInside.{Inside}
use Rattle.prefix_tree.specs.Visits.{visits_beyond}
use Rattle.prefix_tree.specs.Inside.Around.{NodeModel, table_of, is_under, leads_to, link_visits, own_entry, IsUnder, node_view}
use Rattle.prefix_tree.proofs.Begins.{begins_trans, side_begins}
use Rattle.prefix_tree.proofs.OrderLaws.{entries_around}
use Rattle.prefix_tree.proofs.NodePlaces.{sound_when}
use Rattle.prefix_tree.proofs.VisitLaws.{visits_step}
use Rattle.prefix_tree.proofs.NodeLaws.{at_is, table_is, fits, zero_keys, one_keys, zero_under, one_under, read_zero, read_one, firm_node, table_after}
use Rattle.prefix_tree.proofs.JoinLaws.{under_up}

pub turn : (p q : Path) (b c : Bool) → b ≡ c → IsTrue (begins (p ++ b ∷ []) q) → IsTrue (begins (p ++ c ∷ []) q)
turn p q b c e h = subst (λ (z : Bool). IsTrue (begins (p ++ z ∷ []) q)) e h

abbrev one_if : Bool → ℕ
one_if b = cond b 1 0

module _ {V A : Type 0} where
  pub under_any : (p : Path) (o : Option (Box (NodeModel V) A)) → IsUnder p o → IsUnder [] o
  under_any p o h = under_up [] p o refl h

  pub visits_off : (o : Option (Box (NodeModel V) A)) (q : Path) → leads_to o q ≡ false → link_visits o q ≡ cond (is_some o) 1 0
  visits_off None q off = refl
  visits_off (Some b) q off = ap (λ t. 1 + cond t (visits_beyond b.value.table b.value.at q) 0) off

  pub visits_on : (o : Option (Box (NodeModel V) A)) (q : Path) (b : Box (NodeModel V) A) (w : NodeModel V) → o ≡ Some b → w ≡ b.value →
      leads_to o q ≡ true → link_visits o q ≡ 1 + visits_beyond w.table w.at q
  visits_on o q b w is at on =
      ap (λ z. link_visits z q) is ∙ ap (λ t. 1 + cond t (visits_beyond b.value.table b.value.at q) 0) (ap (λ z. leads_to z q) (sym is) ∙ on)
      ∙ ap (λ (z : NodeModel V). 1 + visits_beyond z.table z.at q) (sym at)

  pub some_one : (o : Option (Box (NodeModel V) A)) (b : Box (NodeModel V) A) → o ≡ Some b → one_if (is_some o) ≡ one_if true
  some_one o b is = ap (λ z. one_if (is_some z)) is

module _ {V A : Type 0} (n : Inside V A) (d : NodeModel V) (seen : node_view n.at n.value n.zero n.one ≡ d) (sound : IsTrue d.sound) where
  pub visits_zero : (q : Path) → IsTrue (begins (d.at ++ false ∷ []) q) → visits_beyond d.table d.at q ≡ link_visits n.zero q
  visits_zero q side = visits_step d false n.zero q side (zero_under n d seen sound) (read_zero n d seen sound)

  pub visits_one : (q : Path) → IsTrue (begins (d.at ++ true ∷ []) q) → visits_beyond d.table d.at q ≡ link_visits n.one q
  visits_one q side = visits_step d true n.one q side (one_under n d seen sound) (read_one n d seen sound)

  pub zero_any : IsUnder [] n.zero
  zero_any = under_any _ n.zero (fits n d seen sound).0

  pub one_any : IsUnder [] n.one
  one_any = under_any _ n.one (fits n d seen sound).1

  pub still_sound : (is_under (n.at ++ false ∷ []) n.zero && is_under (n.at ++ true ∷ []) n.one) ≡ true
  still_sound = sound_when n.at n.zero n.one (fits n d seen sound).0 (fits n d seen sound).1

  pub sound_with_zero : (o : Option (Box (NodeModel V) A)) → IsUnder (n.at ++ false ∷ []) o → (is_under (n.at ++ false ∷ []) o && is_under (n.at ++ true ∷ []) n.one) ≡ true
  sound_with_zero o h = sound_when n.at o n.one h (fits n d seen sound).1

  pub sound_with_one : (o : Option (Box (NodeModel V) A)) → IsUnder (n.at ++ true ∷ []) o → (is_under (n.at ++ false ∷ []) n.zero && is_under (n.at ++ true ∷ []) o) ≡ true
  sound_with_one o h = sound_when n.at n.zero o (fits n d seen sound).0 h

  pub entries_node : map.entries d.table ≡ own_entry d.at n.value ++ (map.entries (table_of n.zero) ++ map.entries (table_of n.one))
  entries_node = ap map.entries (sym (table_is n d seen)) ∙ entries_around n.at n.value _ _ (zero_keys n d seen sound) (one_keys n d seen sound) ∙
      ap (λ p. own_entry p n.value ++ (map.entries (table_of n.zero) ++ map.entries (table_of n.one))) (at_is n d seen)

-- one step down towards a path that goes on with the bit
module _ {V A : Type 0} (d : NodeModel V) (b : Bool) (o : Option (Box (NodeModel V) A)) (q : Path) (side : IsTrue (begins (d.at ++ b ∷ []) q))
    (under : IsUnder (d.at ++ b ∷ []) o) (table : (z : Path) → IsTrue (begins (d.at ++ b ∷ []) z) → map.get d.table z ≡ map.get (table_of o) z) where
  pub none_visits : o ≡ None → visits_beyond d.table d.at q ≡ 0
  none_visits is = visits_step d b o q side under table ∙ ap (λ z. link_visits z q) is

  module _ (x : Box (NodeModel V) A) (w : NodeModel V) (is : o ≡ Some x) (at : w ≡ x.value) where
    pub off_visits : begins w.at q ≡ false → visits_beyond d.table d.at q ≡ 1
    off_visits off =
        visits_step d b o q side under table ∙ visits_off o q (ap (λ z. leads_to z q) is ∙ ap (λ (z : NodeModel V). begins z.at q) (sym at) ∙ off) ∙ some_one o x is

    pub on_visits : begins w.at q ≡ true → visits_beyond d.table d.at q ≡ 1 + visits_beyond w.table w.at q
    on_visits on =
        visits_step d b o q side under table ∙ visits_on o q x w is at (ap (λ z. leads_to z q) is ∙ ap (λ (z : NodeModel V). begins z.at q) (sym at) ∙ on)

    pub sound_there : IsTrue w.sound
    sound_there = (firm_node _ o x w is at under).loose.sound

    -- the entries from there on are those of the wider map
    pub same_there : (m : PathMap V) → ((z : Path) → IsTrue (begins d.at z) → map.get d.table z ≡ map.get m z) → (z : Path) → IsTrue (begins w.at z) → map.get w.table z ≡ map.get m z
    same_there m same z on =
        let far : IsTrue (begins (d.at ++ b ∷ []) z) = begins_trans (d.at ++ b ∷ []) w.at z (firm_node _ o x w is at under).loose.extends on in
        ap (λ t. map.get t z) (table_after o x w is at) ∙ sym (table z far) ∙ same z (side_begins d.at z b far)
