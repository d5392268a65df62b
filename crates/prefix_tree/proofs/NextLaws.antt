-- The entry after a path.
use Rattle.std.proofs.Common.{◌≡◌, suc, ◌≤◌, Bool, true, false, cond, List, [], ◌∷◌, ◌++◌, Option, Some, None, length, refl, sym, ap, subst, ◌∙◌, arith}
use mathlib.Core.Bool.{false≢true}
use Rattle.std.specs.Prelude.{IsTrue, IfNone}
use Rattle.std.specs.Option.{option_or, option_map, is_some}
use Rattle.std.specs.Ordering.{is_lt}
use Rattle.std.specs.FinMap as map
use Rattle.std.specs.FinMap.{len-entries, len-empty}
use Rattle.std.specs.declared.boxed.Box.{Box}
use Rattle.base.proofs.Bools.{never}
use Rattle.base.proofs.Lists.{nil_of_length}
use Rattle.prefix_tree.specs.declared.node.Node.TheInside.{Inside}
use Rattle.identity.specs.Path.{Path, path_cmp, begins}
use Rattle.prefix_tree.specs.Table.{PathMap}
use Rattle.prefix_tree.specs.Inside.Paths.{common}
use Rattle.prefix_tree.specs.Visits.{goes_on, any_under}
use Rattle.prefix_tree.specs.Inside.Around.{NodeModel, own_entry, around, KeysUnder, table_of, IsUnder, node_view}
use Rattle.prefix_tree.specs.Next.{first_entry, entry_past}
use Rattle.prefix_tree.proofs.Begins.{begins_length, side_begins}
use Rattle.prefix_tree.proofs.NodePlaces.{place_goes}
use Rattle.prefix_tree.proofs.VisitLaws.{one_side}
use Rattle.prefix_tree.proofs.NodeLaws.{at_is, table_is, firm_node, zero_keys, one_keys}
use Rattle.prefix_tree.proofs.OrderLaws.{AllUnder, entries_under, entries_around}

-- what is under a path that does not begin q is to q as the path itself does
pub cmp_under : (a q x : Path) → begins a q ≡ false → begins a x ≡ true → path_cmp q x ≡ path_cmp q a
cmp_under [] q x off on = absurd (false≢true (sym off))
cmp_under (c ∷ a) [] [] off on = absurd (false≢true (sym (nothing c a) ∙ on))
  where
    nothing : (c : Bool) (a : Path) → begins (c ∷ a) [] ≡ false
    nothing true a = refl
    nothing false a = refl
cmp_under (c ∷ a) [] (d ∷ x) off on = refl
cmp_under (true ∷ a) (e ∷ q) [] off on = absurd (false≢true on)
cmp_under (false ∷ a) (e ∷ q) [] off on = absurd (false≢true on)
cmp_under (true ∷ a) (true ∷ q) (true ∷ x) off on = cmp_under a q x off on
cmp_under (true ∷ a) (false ∷ q) (true ∷ x) off on = refl
cmp_under (false ∷ a) (false ∷ q) (false ∷ x) off on = cmp_under a q x off on
cmp_under (false ∷ a) (true ∷ q) (false ∷ x) off on = refl
cmp_under (true ∷ a) (e ∷ q) (false ∷ x) off on = absurd (false≢true on)
cmp_under (false ∷ a) (e ∷ q) (true ∷ x) off on = absurd (false≢true on)

-- a path that begins q is not after q
pub not_past : (a q : Path) → begins a q ≡ true → is_lt (path_cmp q a) ≡ false
not_past [] [] on = refl
not_past [] (c ∷ q) on = refl
not_past (true ∷ a) [] on = absurd (false≢true on)
not_past (false ∷ a) [] on = absurd (false≢true on)
not_past (true ∷ a) (true ∷ q) on = not_past a q on
not_past (false ∷ a) (false ∷ q) on = not_past a q on
not_past (true ∷ a) (false ∷ q) on = absurd (false≢true on)
not_past (false ∷ a) (true ∷ q) on = absurd (false≢true on)

-- where a does not begin q, the bit after what begins both says which comes first
pub begun_before : (a q : Path) → begins a q ≡ false → length (common a q) ≡ length q → true ≡ is_lt (path_cmp q a)
begun_before [] q off e = absurd (false≢true (sym off))
begun_before (true ∷ a) [] off e = refl
begun_before (false ∷ a) [] off e = refl
begun_before (true ∷ a) (true ∷ q) off e = begun_before a q off (omega (arith, e))
begun_before (false ∷ a) (false ∷ q) off e = begun_before a q off (omega (arith, e))
begun_before (true ∷ a) (false ∷ q) off e = absurd (omega (arith, e))
begun_before (false ∷ a) (true ∷ q) off e = absurd (omega (arith, e))

pub side_before : (a q : Path) (b : Bool) → begins a q ≡ false → (length (common a q) ≡ length q → ⊥) → begins (common a q ++ b ∷ []) a ≡ true → b ≡ is_lt (path_cmp q a)
side_before [] q b off apart on = absurd (false≢true (sym off))
side_before (true ∷ a) [] b off apart on = absurd (apart refl)
side_before (false ∷ a) [] b off apart on = absurd (apart refl)
side_before (true ∷ a) (true ∷ q) b off apart on = side_before a q b off (λ e. apart (ap suc e)) on
side_before (false ∷ a) (false ∷ q) b off apart on = side_before a q b off (λ e. apart (ap suc e)) on
side_before (true ∷ a) (false ∷ q) true off apart on = refl
side_before (true ∷ a) (false ∷ q) false off apart on = absurd (false≢true on)
side_before (false ∷ a) (true ∷ q) true off apart on = absurd (false≢true on)
side_before (false ∷ a) (true ∷ q) false off apart on = refl

-- what goes on with 1 comes after all that goes on with 0, and all else under a path before what goes on with 1
zero_passed : (p q : Path) → begins (p ++ true ∷ []) q ≡ true → is_lt (path_cmp q (p ++ false ∷ [])) ≡ false
zero_passed [] [] on = absurd (false≢true on)
zero_passed [] (true ∷ q) on = refl
zero_passed [] (false ∷ q) on = absurd (false≢true on)
zero_passed (true ∷ p) [] on = absurd (false≢true on)
zero_passed (false ∷ p) [] on = absurd (false≢true on)
zero_passed (true ∷ p) (true ∷ q) on = zero_passed p q on
zero_passed (false ∷ p) (false ∷ q) on = zero_passed p q on
zero_passed (true ∷ p) (false ∷ q) on = absurd (false≢true on)
zero_passed (false ∷ p) (true ∷ q) on = absurd (false≢true on)

one_ahead : (p q : Path) → begins p q ≡ true → begins (p ++ true ∷ []) q ≡ false → is_lt (path_cmp q (p ++ true ∷ [])) ≡ true
one_ahead [] [] on off = refl
one_ahead [] (true ∷ q) on off = absurd (false≢true (sym off))
one_ahead [] (false ∷ q) on off = refl
one_ahead (true ∷ p) [] on off = absurd (false≢true on)
one_ahead (false ∷ p) [] on off = absurd (false≢true on)
one_ahead (true ∷ p) (true ∷ q) on off = one_ahead p q on off
one_ahead (false ∷ p) (false ∷ q) on off = one_ahead p q on off
one_ahead (true ∷ p) (false ∷ q) on off = absurd (false≢true on)
one_ahead (false ∷ p) (true ∷ q) on off = absurd (false≢true on)

not_both : (p q : Path) → begins (p ++ true ∷ []) q ≡ true → begins (p ++ false ∷ []) q ≡ false
not_both p q on = never _ (λ zero. false≢true (sym (one_side p q zero) ∙ on))

module _ {V : Type 0} where
  abbrev no_entry : Option (Path × V)
  no_entry = None

  pick_first : (b : Bool) (e : Path × V) (o p : Option (Path × V)) → cond b (Some e) (option_or o p) ≡ option_or (cond b (Some e) o) p
  pick_first true e o p = refl
  pick_first false e o p = refl

  past_append : (q : Path) (es fs : List (Path × V)) → entry_past q (es ++ fs) ≡ option_or (entry_past q es) (entry_past q fs)
  past_append q [] fs = refl
  past_append q (e ∷ es) fs = ap (cond (is_lt (path_cmp q e.0)) (Some e)) (past_append q es fs) ∙ pick_first (is_lt (path_cmp q e.0)) e _ _

  first_append : (es fs : List (Path × V)) → first_entry (es ++ fs) ≡ option_or (first_entry es) (first_entry fs)
  first_append [] fs = refl
  first_append (e ∷ es) fs = refl

  past_off : (a q : Path) (es : List (Path × V)) → begins a q ≡ false → AllUnder a es → entry_past q es ≡ cond (is_lt (path_cmp q a)) (first_entry es) None
  past_off a q [] off all = none (is_lt (path_cmp q a))
    where
      none : (b : Bool) → no_entry ≡ cond b no_entry no_entry
      none true = refl
      none false = refl
  past_off a q (e ∷ es) off all =
      ap (λ o. cond (is_lt o) (Some e) (entry_past q es)) (cmp_under a q e.0 off all.0) ∙ either (is_lt (path_cmp q a)) (entry_past q es) (first_entry es) (past_off a q es off all.1)
    where
      either : (b : Bool) (o f : Option (Path × V)) → o ≡ cond b f None → cond b (Some e) o ≡ cond b (Some e) None
      either true o f h = refl
      either false o f h = h

  pub past_beside : (a q : Path) (m : PathMap V) → KeysUnder a m → begins a q ≡ false → entry_past q (map.entries m) ≡ cond (is_lt (path_cmp q a)) (first_entry (map.entries m)) None
  past_beside a q m keys off = past_off a q (map.entries m) off (entries_under a m keys)

  own_past : (p q : Path) (v : Option V) → begins p q ≡ true → entry_past q (own_entry p v) ≡ None
  own_past p q None on = refl
  own_past p q (Some x) on = ap (λ b. cond b (Some (p, x)) None) (not_past p q on)

  module _ (p : Path) (v : Option V) (l r : PathMap V) (left : KeysUnder (p ++ false ∷ []) l) (right : KeysUnder (p ++ true ∷ []) r) where
    pub first_around : first_entry (map.entries (around p v l r)) ≡ option_or (first_entry (own_entry p v)) (option_or (first_entry (map.entries l)) (first_entry (map.entries r)))
    first_around =
        ap first_entry (entries_around p v l r left right) ∙ first_append (own_entry p v) (map.entries l ++ map.entries r)
        ∙ ap (option_or (first_entry (own_entry p v))) (first_append (map.entries l) (map.entries r))

    pub past_around : (q : Path) → begins p q ≡ true → entry_past q (map.entries (around p v l r)) ≡ option_or (entry_past q (map.entries l)) (entry_past q (map.entries r))
    past_around q on =
        ap (entry_past q) (entries_around p v l r left right) ∙ past_append q (own_entry p v) (map.entries l ++ map.entries r)
        ∙ ap (λ o. option_or o (entry_past q (map.entries l ++ map.entries r))) (own_past p q v on) ∙ past_append q (map.entries l) (map.entries r)

module _ {V A : Type 0} where
  pub none_entries : (o : Option (Box (NodeModel V) A)) → o ≡ None → map.entries (table_of o) ≡ []
  none_entries o is = nil_of_length _ (sym (len-entries (table_of o)) ∙ ap (λ z. map.len (table_of z)) is ∙ len-empty path_cmp V)

  pub none_first : (o : Option (Box (NodeModel V) A)) → o ≡ None → None ≡ first_entry (map.entries (table_of o))
  none_first o is = sym (ap first_entry (none_entries o is))

  pub none_past : (q : Path) (o : Option (Box (NodeModel V) A)) → o ≡ None → None ≡ entry_past q (map.entries (table_of o))
  none_past q o is = sym (ap (entry_past q) (none_entries o is))

  module _ (n : Inside V A) (d : NodeModel V) (seen : node_view n.at n.value n.zero n.one ≡ d) (sound : IsTrue d.sound) where
    first_node : first_entry (map.entries d.table) ≡ option_or (first_entry (own_entry n.at n.value))
        (option_or (first_entry (map.entries (table_of n.zero))) (first_entry (map.entries (table_of n.one))))
    first_node = ap (λ m. first_entry (map.entries m)) (sym (table_is n d seen)) ∙ first_around n.at n.value _ _ (zero_keys n d seen sound) (one_keys n d seen sound)

    pub first_own : (x : V) → n.value ≡ Some x → Some (n.at, x) ≡ first_entry (map.entries d.table)
    first_own x is = sym (first_node ∙ ap (λ v. option_or (first_entry (own_entry n.at v)) (option_or (first_entry (map.entries (table_of n.zero))) (first_entry (map.entries (table_of n.one))))) is)

    first_bare : n.value ≡ None → first_entry (map.entries d.table) ≡ option_or (first_entry (map.entries (table_of n.zero))) (first_entry (map.entries (table_of n.one)))
    first_bare is = first_node ∙ ap (λ v. option_or (first_entry (own_entry n.at v)) (option_or (first_entry (map.entries (table_of n.zero))) (first_entry (map.entries (table_of n.one))))) is

    pub first_zero : (e : Path × V) → n.value ≡ None → Some e ≡ first_entry (map.entries (table_of n.zero)) → Some e ≡ first_entry (map.entries d.table)
    first_zero e is found = sym (first_bare is ∙ ap (λ o. option_or o (first_entry (map.entries (table_of n.one)))) (sym found))

    pub first_one : (o : Option (Path × V)) → n.value ≡ None → None ≡ first_entry (map.entries (table_of n.zero)) →
        o ≡ first_entry (map.entries (table_of n.one)) → o ≡ first_entry (map.entries d.table)
    first_one o is none found = found ∙ sym (first_bare is ∙ ap (λ o. option_or o (first_entry (map.entries (table_of n.one)))) (sym none))

    past_node : (q : Path) → begins d.at q ≡ true → entry_past q (map.entries d.table) ≡ option_or (entry_past q (map.entries (table_of n.zero))) (entry_past q (map.entries (table_of n.one)))
    past_node q on = ap (λ m. entry_past q (map.entries m)) (sym (table_is n d seen)) ∙
        past_around n.at n.value _ _ (zero_keys n d seen sound) (one_keys n d seen sound) q (ap (λ p. begins p q) (at_is n d seen) ∙ on)

    pub past_zero : (q : Path) → begins d.at q ≡ true → (e : Path × V) → Some e ≡ entry_past q (map.entries (table_of n.zero)) → Some e ≡ entry_past q (map.entries d.table)
    past_zero q on e found = sym (past_node q on ∙ ap (λ o. option_or o (entry_past q (map.entries (table_of n.one)))) (sym found))

    -- a key that goes on with 1 is past all that goes on with 0
    pub past_via_one : (q : Path) → begins (n.at ++ true ∷ []) q ≡ true → (o : Option (Path × V)) → o ≡ entry_past q (map.entries (table_of n.one)) → o ≡ entry_past q (map.entries d.table)
    past_via_one q on o found =
        let zero : entry_past q (map.entries (table_of n.zero)) ≡ None =
        past_beside (n.at ++ false ∷ []) q (table_of n.zero) (zero_keys n d seen sound) (not_both n.at q on)
        ∙ ap (λ t. cond t (first_entry (map.entries (table_of n.zero))) None) (zero_passed n.at q on) in
        found ∙ sym (past_node q (ap (λ p. begins p q) (sym (at_is n d seen)) ∙ side_begins n.at q true on) ∙ ap (λ o. option_or o (entry_past q (map.entries (table_of n.one)))) zero)

    -- for any other, all that goes on with 1 is still to come
    pub past_then_one : (q : Path) → begins d.at q ≡ true → begins (n.at ++ true ∷ []) q ≡ false → (o : Option (Path × V)) →
        None ≡ entry_past q (map.entries (table_of n.zero)) → o ≡ first_entry (map.entries (table_of n.one)) → o ≡ entry_past q (map.entries d.table)
    past_then_one q on off o none found =
        let one : entry_past q (map.entries (table_of n.one)) ≡ first_entry (map.entries (table_of n.one)) =
        past_beside (n.at ++ true ∷ []) q (table_of n.one) (one_keys n d seen sound) off
        ∙ ap (λ t. cond t (first_entry (map.entries (table_of n.one))) None) (one_ahead n.at q (ap (λ p. begins p q) (at_is n d seen) ∙ on) off) in
        found ∙ sym (past_node q on ∙ ap (λ o. option_or o (entry_past q (map.entries (table_of n.one)))) (sym none) ∙ one)

module _ {V : Type 0} where
  not_bare : (m : PathMap V) (p : Path) → goes_on m p ≡ true → no_entry ≡ first_entry (map.entries m) → ⊥
  unfolding goes_on
  not_bare m p goes none = bare (map.entries m) goes none
    where
      bare : (es : List (Path × V)) → any_under p es ≡ true → no_entry ≡ first_entry es → ⊥
      bare [] goes none = false≢true goes
      bare (e ∷ es) goes none = false≢true (ap is_some none)

module _ {V A : Type 0} (o : Option (Box (NodeModel V) A)) (b : Box (NodeModel V) A) (w : NodeModel V) (is : o ≡ Some b) (at : w ≡ b.value) where
  -- a node below a link has a first entry
  pub first_is_there : {R : Type 0} (f : R → Path × V) (r : Option R) (P : Type 0) → IsUnder [] o → option_map f r ≡ first_entry (map.entries w.table) → IfNone r P
  first_is_there f None P under found = absurd (not_bare w.table w.at (place_goes w.table w.at (firm_node [] o b w is at under).place) found)
  first_is_there f (Some x) P under found = tt

  pub longer_below : (p : Path) → IsUnder p o → length p ≤ length w.at
  longer_below p under = begins_length p w.at (firm_node p o b w is at under).loose.extends

module _ {V A : Type 0} (o : Option (Box (NodeModel V) A)) (b : Box (NodeModel V) A) (q : Path) (is : o ≡ Some b) (under : IsUnder [] o) (off : begins b.value.at q ≡ false) where
  beside : entry_past q (map.entries (table_of o)) ≡ cond (is_lt (path_cmp q b.value.at)) (first_entry (map.entries b.value.table)) None
  beside = ap (λ z. entry_past q (map.entries (table_of z))) is ∙ past_beside b.value.at q b.value.table (subst (λ z. IsUnder [] z) is under).loose.keys off

  pub past_ahead : (w : NodeModel V) (r : Option (Path × V)) → w ≡ b.value → true ≡ is_lt (path_cmp q b.value.at) → r ≡ first_entry (map.entries w.table) → r ≡ entry_past q (map.entries (table_of o))
  past_ahead w r at less found = found ∙ ap (λ (z : NodeModel V). first_entry (map.entries z.table)) at ∙ sym (beside ∙ ap (λ t. cond t (first_entry (map.entries b.value.table)) None) (sym less))

  pub past_after : false ≡ is_lt (path_cmp q b.value.at) → None ≡ entry_past q (map.entries (table_of o))
  past_after less = sym (beside ∙ ap (λ t. cond t (first_entry (map.entries b.value.table)) None) (sym less))
