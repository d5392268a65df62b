-- What a write below a node makes of the node.
use Rattle.std.proofs.Common.{◌≡◌, ℕ, ◌+◌, ◌-◌, ◌<◌, ◌≤◌, Bool, true, false, cond, nat_eq, inl, inr, [], ◌∷◌, ◌++◌, Option, Some, None, length, refl, sym, ap, ◌∙◌, subst, arith, MutBor}
use mathlib.Core.Bool.{false≢true}
use Rattle.std.proofs.lemmas.Bool.{cases_eq}
use Rattle.std.proofs.lemmas.Bool.Decides.{nat_tests}
use Rattle.std.specs.Prelude.{IsTrue, OnSome, IfSome, IfNone, ◌&&◌, ◌||◌}
use Rattle.std.specs.Option.{is_some, option_copied_mut}
use Rattle.std.specs.declared.boxed.Box.{Box}
use Rattle.std.specs.Ordering.{eq_by_cmp}
use Rattle.std.specs.FinMap as map
use Rattle.std.specs.FinMap.{get-insert, same_map}
use Rattle.identity.specs.Path.{Path, path_cmp, begins}
use Rattle.identity.specs.Inside.PathLaws.{paths_total, paths_exact, tie_exact}
use Rattle.prefix_tree.specs.declared.node.Node.TheInside.{Inside}
use Rattle.prefix_tree.specs.Visits.{visits_beyond}
use Rattle.prefix_tree.specs.Inside.Around.{NodeModel, KeysUnder, table_of, leads_to, link_visits, IsFirm, IsUnder, node_view}
use Rattle.prefix_tree.specs.Inside.Grafting.{IsOnWay, IsLike, IsGrafted}
use Rattle.prefix_tree.proofs.Begins.{pick, pick_zero, pick_one, begins_self, begins_trans, begins_length, begins_whole, longer_side, side_begins}
use Rattle.prefix_tree.proofs.AroundLaws.{get_around, keys_around, under_off}
use Rattle.prefix_tree.proofs.NodePlaces.{place_around, goes_link, sound_when}
use Rattle.prefix_tree.proofs.NodeLaws.{at_is, table_is, fits, zero_keys, one_keys, keys_of, zero_under, one_under, read_zero, read_one}
use Rattle.prefix_tree.proofs.JoinLaws.{place_parts}
use Rattle.prefix_tree.proofs.StepLaws.{still_sound, visits_on, some_one}

pub if_at : {T : Type 0} (P : T → Type 0) (r : Option T) (x : T) → r ≡ Some x → IfSome r P → P x
if_at P r x e h = subst (λ z. IfSome z P) e h

pub if_both : {T : Type 0} {P Q R : T → Type 0} (r : Option T) → IfSome r P → IfSome r Q → ((x : T) → P x → Q x → R x) → IfSome r R
if_both None p q f = tt
if_both (Some x) p q f = f x p q

pub on_some : {T P Q : Type 0} (r : Option T) → (P → Q) → OnSome r P → OnSome r Q
on_some (Some x) f h = f h
on_some None f h = h

pub all_some : {T P : Type 0} (r : Option T) → P → OnSome r P
all_some (Some x) h = h
all_some None h = tt

module _ {V : Type 0} where
  pub like_self : (s : NodeModel V) → IsLike s s
  like_self s = record { at = refl; place = λ h. h; keys = λ h. h; sound = λ h. h }

  pub like_is : (s t n : NodeModel V) → t ≡ s → IsLike t n → IsLike s n
  like_is s t n is like = subst (λ z. IsLike z n) is like

  pub firm_like : (p : Path) (l w : NodeModel V) → IsFirm p l → IsLike l w → IsFirm p w
  firm_like p l w firm like = record {
    loose = record { extends = ap (begins p) like.at ∙ firm.loose.extends; keys = like.keys firm.loose.keys; sound = like.sound firm.loose.sound };
    place = like.place firm.place;
  }

  -- a graft into what was grafted
  pub graft_again : (s l low n w1 l2 w2 : NodeModel V) (q : Path) → IsOnWay s q l → low ≡ l → (IsLike l w1 → IsGrafted s l n w1) → IsOnWay low q l2 → IsGrafted low l2 w1 w2 → IsGrafted s l2 n w2
  graft_again s l low n w1 l2 w2 q on is ends next inner =
      let outer : IsGrafted s l n w1 = ends (like_is l low w1 is inner.like) in record {
        like = outer.like;
        table = λ z. outer.table z ∙ both z (begins l.at z) refl (begins l2.at z) refl;
      }
    where
      inside : (z : Path) → map.get w1.table z ≡ cond (begins l2.at z) (map.get w2.table z) (map.get l.table z)
      inside z = inner.table z ∙ ap (λ (x : NodeModel V). cond (begins l2.at z) (map.get w2.table z) (map.get x.table z)) is

      wider : (z : Path) → begins l2.at z ≡ true → begins l.at z ≡ true
      wider z h = begins_trans l.at l2.at z (ap (λ (x : NodeModel V). begins x.at l2.at) (sym is) ∙ next.firm.loose.extends) h

      both : (z : Path) (t : Bool) → begins l.at z ≡ t → (u : Bool) → begins l2.at z ≡ u →
          cond (begins l.at z) (map.get w1.table z) (map.get s.table z) ≡ cond (begins l2.at z) (map.get w2.table z) (map.get s.table z)
      both z true a true b = ap (λ t. cond t (map.get w1.table z) (map.get s.table z)) a ∙ inside z ∙
          ap (λ t. cond t (map.get w2.table z) (map.get l.table z)) b ∙ sym (ap (λ t. cond t (map.get w2.table z) (map.get s.table z)) b)
      both z true a false b = ap (λ t. cond t (map.get w1.table z) (map.get s.table z)) a ∙ inside z ∙
          ap (λ t. cond t (map.get w2.table z) (map.get l.table z)) b ∙ sym (on.same z a) ∙
          sym (ap (λ t. cond t (map.get w2.table z) (map.get s.table z)) b)
      both z false a true b = absurd (false≢true (sym a ∙ wider z b))
      both z false a false b = ap (λ t. cond t (map.get w1.table z) (map.get s.table z)) a ∙ sym (ap (λ t. cond t (map.get w2.table z) (map.get s.table z)) b)

  -- what is on the way from a node on the way is on the way
  pub way_again : (s l low l2 : NodeModel V) (q : Path) → IsOnWay s q l → low ≡ l → IsOnWay low q l2 → IsOnWay s q l2
  way_again s l low l2 q on is next =
      let step : IsOnWay l q l2 = subst (λ z. IsOnWay z q l2) is next in record {
        firm = record {
          loose = record { extends = begins_trans s.at l.at l2.at on.firm.loose.extends step.firm.loose.extends; keys = step.firm.loose.keys; sound = step.firm.loose.sound };
          place = step.firm.place;
        };
        longer = let a = on.longer in let b = step.longer in omega (arith, a, b);
        leads = step.leads;
        same = λ z h. on.same z (begins_trans l.at l2.at z step.firm.loose.extends h) ∙ step.same z h;
      }

  module _ (s l low n w : NodeModel V) (q : Path) (on : IsOnWay s q l) (is : low ≡ l) (ends : IsLike l w → IsGrafted s l n w) where
    pub graft_like : IsLike low w → IsLike s n
    graft_like like = (ends (like_is l low w is like)).like

    -- what is below stays: so does the whole
    pub graft_same : (w.table ≡ low.table) × IsLike low w → (n.table ≡ s.table) × IsLike s n
    graft_same h = (same_map paths_total paths_exact n.table s.table (λ z. (ends (like_is l low w is h.1)).table z ∙ as_before z (begins l.at z) refl), graft_like h.1)
      where
        as_before : (z : Path) (t : Bool) → begins l.at z ≡ t → cond (begins l.at z) (map.get w.table z) (map.get s.table z) ≡ map.get s.table z
        as_before z true a = ap (λ t. cond t (map.get w.table z) (map.get s.table z)) a ∙ ap (λ m. map.get m z) h.0 ∙ ap (λ (x : NodeModel V). map.get x.table z) is ∙ sym (on.same z a)
        as_before z false a = ap (λ t. cond t (map.get w.table z) (map.get s.table z)) a

    -- one value set below is set in the whole
    pub graft_insert : (p : Path) (x : V) → low.at ≡ p → IsLike low w → w.table ≡ map.insert low.table p x → n.table ≡ map.insert s.table p x
    graft_insert p x at like set = same_map paths_total paths_exact n.table (map.insert s.table p x) (λ z.
        (ends (like_is l low w is like)).table z ∙ put z (begins l.at z) refl (eq_by_cmp path_cmp z p) refl ∙ sym (get-insert paths_total s.table p x z))
      where
        under : (z : Path) → eq_by_cmp path_cmp z p ≡ true → begins l.at z ≡ true
        under z e = ap (λ (y : NodeModel V). begins y.at z) (sym is) ∙ ap (λ y. begins y z) at ∙ ap (begins p) (tie_exact z p e) ∙ begins_self p

        inner : (z : Path) → map.get w.table z ≡ cond (eq_by_cmp path_cmp z p) (Some x) (map.get l.table z)
        inner z = ap (λ m. map.get m z) set ∙ get-insert paths_total low.table p x z ∙ ap (λ (y : NodeModel V). cond (eq_by_cmp path_cmp z p) (Some x) (map.get y.table z)) is

        put : (z : Path) (t : Bool) → begins l.at z ≡ t → (u : Bool) → eq_by_cmp path_cmp z p ≡ u →
            cond (begins l.at z) (map.get w.table z) (map.get s.table z) ≡ cond (eq_by_cmp path_cmp z p) (Some x) (map.get s.table z)
        put z true a u b = ap (λ t. cond t (map.get w.table z) (map.get s.table z)) a ∙ inner z ∙ ap (cond (eq_by_cmp path_cmp z p) (Some x)) (sym (on.same z a))
        put z false a true b = absurd (false≢true (sym a ∙ under z b))
        put z false a false b = ap (λ t. cond t (map.get w.table z) (map.get s.table z)) a ∙ sym (ap (λ u. cond u (Some x) (map.get s.table z)) b)

module _ {V A : Type 0} (n : Inside V A) (d : NodeModel V) (seen : node_view n.at n.value n.zero n.one ≡ d) (sound : IsTrue d.sound) where
  zero_fit : IsUnder (n.at ++ false ∷ []) n.zero
  zero_fit = (fits n d seen sound).0

  one_fit : IsUnder (n.at ++ true ∷ []) n.one
  one_fit = (fits n d seen sound).1

  -- a value written at the node
  pub own_like : (x : V) → IsLike d (node_view n.at (Some x) n.zero n.one)
  own_like x = record {
    at = at_is n d seen;
    place = λ h. place_around n.at (Some x) _ _ (zero_keys n d seen sound) (one_keys n d seen sound);
    keys = λ h. keys_around n.at (Some x) _ _ (zero_keys n d seen sound) (one_keys n d seen sound);
    sound = λ h. still_sound n d seen sound;
  }

  pub same_like : IsLike d (node_view n.at n.value n.zero n.one)
  same_like = subst (λ z. IsLike z (node_view n.at n.value n.zero n.one)) seen (like_self (node_view n.at n.value n.zero n.one))

  module _ (l w : Box (NodeModel V) A) (like : IsLike l.value w.value) where
    -- another node in the place of the one under 1
    pub one_grafted : n.one ≡ Some l → IsGrafted d l.value (node_view n.at n.value n.zero (Some w)) w.value
    one_grafted is =
        let old : IsFirm (n.at ++ true ∷ []) l.value = subst (λ o. IsUnder (n.at ++ true ∷ []) o) is one_fit in
        let new : IsFirm (n.at ++ true ∷ []) w.value = firm_like (n.at ++ true ∷ []) l.value w.value old like in
        let keys : KeysUnder (n.at ++ true ∷ []) w.value.table = keys_of {V = V} {A = A} (n.at ++ true ∷ []) (Some w) new in record {
          like = record {
            at = at_is n d seen;
            place = λ h.
                place_around n.at n.value _ _ (zero_keys n d seen sound) keys
                ∙ (λ i. is_some n.value || goes_link (n.at ++ false ∷ []) n.zero zero_fit i && goes_link {V = V} {A = A} (n.at ++ true ∷ []) (Some w) new i)
                ∙ ap (λ o. is_some n.value || is_some n.zero && is_some o) (sym is) ∙ sym (place_parts n d seen sound) ∙ h;
            keys = λ h. keys_around n.at n.value _ _ (zero_keys n d seen sound) keys;
            sound = λ h. sound_when n.at n.zero (Some w) zero_fit new;
          };
          table = λ q.
              get_around n.at n.value _ _ (zero_keys n d seen sound) keys q ∙ split q (begins l.value.at q) refl old new;
        }
      where
        here : (q : Path) → map.get d.table q ≡ pick n.at q n.value (map.get (table_of n.zero) q) (map.get l.value.table q)
        here q = ap (λ m. map.get m q) (sym (table_is n d seen)) ∙ get_around n.at n.value _ _ (zero_keys n d seen sound) (one_keys n d seen sound) q
            ∙ ap (λ o. pick n.at q n.value (map.get (table_of n.zero) q) (map.get (table_of o) q)) is

        split : (q : Path) (t : Bool) → begins l.value.at q ≡ t → IsFirm (n.at ++ true ∷ []) l.value → IsFirm (n.at ++ true ∷ []) w.value →
            pick n.at q n.value (map.get (table_of n.zero) q) (map.get w.value.table q) ≡ cond (begins l.value.at q) (map.get w.value.table q)
            (map.get d.table q)
        split q true on old new = pick_one n.at q n.value _ _ (begins_trans (n.at ++ true ∷ []) l.value.at q old.loose.extends on) ∙
            sym (ap (λ t. cond t (map.get w.value.table q) (map.get d.table q)) on)
        split q false off old new =
            ap (pick n.at q n.value (map.get (table_of n.zero) q))
            (under_off w.value.at q w.value.table new.loose.keys (ap (λ p. begins p q) like.at ∙ off) ∙
            sym (under_off l.value.at q l.value.table old.loose.keys off))
            ∙ sym (here q) ∙ sym (ap (λ t. cond t (map.get w.value.table q) (map.get d.table q)) off)

    -- another node in the place of the one under 0
    pub zero_grafted : n.zero ≡ Some l → IsGrafted d l.value (node_view n.at n.value (Some w) n.one) w.value
    zero_grafted is =
        let old : IsFirm (n.at ++ false ∷ []) l.value = subst (λ o. IsUnder (n.at ++ false ∷ []) o) is zero_fit in
        let new : IsFirm (n.at ++ false ∷ []) w.value = firm_like (n.at ++ false ∷ []) l.value w.value old like in
        let keys : KeysUnder (n.at ++ false ∷ []) w.value.table = keys_of {V = V} {A = A} (n.at ++ false ∷ []) (Some w) new in record {
          like = record {
            at = at_is n d seen;
            place = λ h.
                place_around n.at n.value _ _ keys (one_keys n d seen sound)
                ∙ (λ i. is_some n.value || goes_link {V = V} {A = A} (n.at ++ false ∷ []) (Some w) new i && goes_link (n.at ++ true ∷ []) n.one one_fit i)
                ∙ ap (λ o. is_some n.value || is_some o && is_some n.one) (sym is) ∙ sym (place_parts n d seen sound) ∙ h;
            keys = λ h. keys_around n.at n.value _ _ keys (one_keys n d seen sound);
            sound = λ h. sound_when n.at (Some w) n.one new one_fit;
          };
          table = λ q.
              get_around n.at n.value _ _ keys (one_keys n d seen sound) q ∙ split q (begins l.value.at q) refl old new;
        }
      where
        here : (q : Path) → map.get d.table q ≡ pick n.at q n.value (map.get l.value.table q) (map.get (table_of n.one) q)
        here q = ap (λ m. map.get m q) (sym (table_is n d seen)) ∙ get_around n.at n.value _ _ (zero_keys n d seen sound) (one_keys n d seen sound) q
            ∙ ap (λ o. pick n.at q n.value (map.get (table_of o) q) (map.get (table_of n.one) q)) is

        split : (q : Path) (t : Bool) → begins l.value.at q ≡ t → IsFirm (n.at ++ false ∷ []) l.value → IsFirm (n.at ++ false ∷ []) w.value →
            pick n.at q n.value (map.get w.value.table q) (map.get (table_of n.one) q) ≡ cond (begins l.value.at q) (map.get w.value.table q)
            (map.get d.table q)
        split q true on old new = pick_zero n.at q n.value _ _ (begins_trans (n.at ++ false ∷ []) l.value.at q old.loose.extends on) ∙
            sym (ap (λ t. cond t (map.get w.value.table q) (map.get d.table q)) on)
        split q false off old new =
            ap (λ o. pick n.at q n.value o (map.get (table_of n.one) q))
            (under_off w.value.at q w.value.table new.loose.keys (ap (λ p. begins p q) like.at ∙ off) ∙
            sym (under_off l.value.at q l.value.table old.loose.keys off))
            ∙ sym (here q) ∙ sym (ap (λ t. cond t (map.get w.value.table q) (map.get d.table q)) off)

  -- the node under a side on the way
  pub one_way : (q : Path) (l : Box (NodeModel V) A) → n.one ≡ Some l → leads_to n.one q ≡ true → IsOnWay d q l.value
  one_way q l is on =
      let firm : IsFirm (d.at ++ true ∷ []) l.value = subst (λ o. IsUnder (d.at ++ true ∷ []) o) is (one_under n d seen sound) in record {
        firm = record { loose = record { extends = side_begins d.at l.value.at true firm.loose.extends; keys = firm.loose.keys; sound = firm.loose.sound }; place = firm.place };
        longer = longer_side d.at l.value.at true firm.loose.extends;
        leads = ap (λ o. leads_to o q) (sym is) ∙ on;
        same = λ z h. read_one n d seen sound z (begins_trans (d.at ++ true ∷ []) l.value.at z firm.loose.extends h) ∙ ap (λ o. map.get (table_of o) z) is;
      }

  pub zero_way : (q : Path) (l : Box (NodeModel V) A) → n.zero ≡ Some l → leads_to n.zero q ≡ true → IsOnWay d q l.value
  zero_way q l is on =
      let firm : IsFirm (d.at ++ false ∷ []) l.value = subst (λ o. IsUnder (d.at ++ false ∷ []) o) is (zero_under n d seen sound) in record {
        firm = record { loose = record { extends = side_begins d.at l.value.at false firm.loose.extends; keys = firm.loose.keys; sound = firm.loose.sound }; place = firm.place };
        longer = longer_side d.at l.value.at false firm.loose.extends;
        leads = ap (λ o. leads_to o q) (sym is) ∙ on;
        same = λ z h. read_zero n d seen sound z (begins_trans (d.at ++ false ∷ []) l.value.at z firm.loose.extends h) ∙ ap (λ o. map.get (table_of o) z) is;
      }

pub none_never : {V A : Type 0} (P : Type 0) (r : Option (MutBor (Box (NodeModel V) A))) (o : Option (Box (NodeModel V) A)) (q : Path) → option_copied_mut r ≡ o → leads_to o q ≡ true → IfNone r P
none_never P None o q is on = absurd (false≢true (ap (λ z. leads_to z q) is ∙ on))
none_never P (Some l) o q is on = tt

pub way_far : {V A : Type 0} (r : Option (MutBor (Box (NodeModel V) A))) (s : NodeModel V) (q : Path) → IfSome r (λ l. IsOnWay s q l.now.value) →
    IfSome r (λ l. (n : ℕ) → n ≤ length s.at + 1 → n ≤ length q → n ≤ length l.now.value.at)
way_far None s q h = tt
way_far (Some l) s q h = λ n a b. let k = h.longer in omega (arith, k, a)

module _ {V A : Type 0} (n : Inside V A) (d : NodeModel V) (seen : node_view n.at n.value n.zero n.one ≡ d) (sound : IsTrue d.sound) (r : Option (MutBor (Box (NodeModel V) A))) where
  pub one_borrowed : option_copied_mut r ≡ n.one → (w : Box (NodeModel V) A) → IfSome r (λ l. IsLike l.now.value w.value → IsGrafted d l.now.value (node_view n.at n.value n.zero (Some w)) w.value)
  one_borrowed is w = at r is
    where
      at : (r : Option (MutBor (Box (NodeModel V) A))) → option_copied_mut r ≡ n.one →
          IfSome r (λ l. IsLike l.now.value w.value → IsGrafted d l.now.value (node_view n.at n.value n.zero (Some w)) w.value)
      at None is = tt
      at (Some l) is = λ like. one_grafted n d seen sound l.now w like (sym is)

  pub zero_borrowed : option_copied_mut r ≡ n.zero → (w : Box (NodeModel V) A) → IfSome r (λ l. IsLike l.now.value w.value → IsGrafted d l.now.value (node_view n.at n.value (Some w) n.one) w.value)
  zero_borrowed is w = at r is
    where
      at : (r : Option (MutBor (Box (NodeModel V) A))) → option_copied_mut r ≡ n.zero →
          IfSome r (λ l. IsLike l.now.value w.value → IsGrafted d l.now.value (node_view n.at n.value (Some w) n.one) w.value)
      at None is = tt
      at (Some l) is = λ like. zero_grafted n d seen sound l.now w like (sym is)

  module _ (q : Path) where
    pub one_ways : option_copied_mut r ≡ n.one → leads_to n.one q ≡ true → IfSome r (λ l. IsOnWay d q l.now.value)
    one_ways is on = at r is
      where
        at : (r : Option (MutBor (Box (NodeModel V) A))) → option_copied_mut r ≡ n.one → IfSome r (λ l. IsOnWay d q l.now.value)
        at None is = tt
        at (Some l) is = one_way n d seen sound q l.now (sym is) on

    pub zero_ways : option_copied_mut r ≡ n.zero → leads_to n.zero q ≡ true → IfSome r (λ l. IsOnWay d q l.now.value)
    zero_ways is on = at r is
      where
        at : (r : Option (MutBor (Box (NodeModel V) A))) → option_copied_mut r ≡ n.zero → IfSome r (λ l. IsOnWay d q l.now.value)
        at None is = tt
        at (Some l) is = zero_way n d seen sound q l.now (sym is) on

    -- what the step to the link cost
    pub step_cost : (o : Option (Box (NodeModel V) A)) (before after : ℕ) → option_copied_mut r ≡ o → leads_to o q ≡ true →
        visits_beyond d.table d.at q ≡ link_visits o q → after ≡ before + cond (is_some o) 1 0 →
        IfSome r (λ l. after + visits_beyond l.now.value.table l.now.value.at q ≡ before + visits_beyond d.table d.at q)
    step_cost o before after is on step cost = at r is
      where
        at : (r : Option (MutBor (Box (NodeModel V) A))) → option_copied_mut r ≡ o → IfSome r (λ l. after + visits_beyond l.now.value.table l.now.value.at q ≡ before + visits_beyond d.table d.at q)
        at None is = tt
        at (Some l) is =
            let one = some_one o l.now (sym is) in
            let more : link_visits o q ≡ 1 + visits_beyond l.now.value.table l.now.value.at q = visits_on o q l.now l.now.value (sym is) refl on in
            omega (arith, cost, one, more, step)

same_lengths : (a b : ℕ) (t : Bool) → t ≡ nat_eq a b → t ≡ true → a ≡ b
same_lengths a b t is so = let e : nat_eq a b ≡ true = sym is ∙ so in grind (arith, nat_tests, e)

apart_lengths : (a b : ℕ) (t : Bool) → t ≡ nat_eq a b → t ≡ false → a ≡ b → ⊥
apart_lengths a b t is off same = let e : nat_eq a b ≡ false = sym is ∙ off in grind (arith, nat_tests, e, same)

module _ {V : Type 0} (s l : NodeModel V) (q : Path) (on : IsOnWay s q l) where
  -- the link leads to the key's own node, or goes further
  pub far_there : (t : Bool) (k : ℕ) → t ≡ nat_eq (length l.at) (length q) → t ≡ true → (n : ℕ) → n ≤ length s.at + k → n ≤ length q → n ≤ length l.at
  far_there t k is so n a b = let e = same_lengths (length l.at) (length q) t is so in omega (arith, e, b)

  pub at_end : (k : ℕ) → length q ≤ length s.at + k → ((n : ℕ) → n ≤ length s.at + k → n ≤ length q → n ≤ length l.at) → l.at ≡ q
  at_end k le far = begins_whole l.at q on.leads (far (length q) le (omega arith))

  module _ (low : NodeModel V) (is : low ≡ l) where
    same_at : length low.at ≡ length l.at
    same_at = ap (λ (x : NodeModel V). length x.at) is

    pub still_longer : (t : Bool) → t ≡ nat_eq (length l.at) (length q) → t ≡ false → length low.at < length q
    still_longer t e off =
        let le = begins_length l.at q on.leads in
        let h = same_at in
        elim (cases_eq (length l.at) (length q)) [
          | inl same ↦ absurd (apart_lengths (length l.at) (length q) t e off same)
          | inr other ↦ omega (arith, le, h, other)
        ]

    pub far_again : (h k : ℕ) → k ≡ h + h → ((n : ℕ) → n ≤ length s.at + h → n ≤ length q → n ≤ length l.at) → (m : ℕ) →
        ((n : ℕ) → n ≤ length low.at + h → n ≤ length q → n ≤ m) → (n : ℕ) → n ≤ length s.at + k → n ≤ length q → n ≤ m
    far_again h k twice one m two n a b =
        let near = one (n - h) (omega (arith, a, twice)) (omega (arith, b)) in
        let e = same_at in
        two n (omega (arith, near, e)) b

    pub none_again : map.get low.table q ≡ None → map.get s.table q ≡ None
    none_again none = on.same q on.leads ∙ ap (λ (x : NodeModel V). map.get x.table q) (sym is) ∙ none

    pub cost_again : (before mid : ℕ) → mid + visits_beyond l.table l.at q ≡ before + visits_beyond s.table s.at q → (after more : ℕ) →
        after + more ≡ mid + visits_beyond low.table low.at q → after + more ≡ before + visits_beyond s.table s.at q
    cost_again before mid one after more two = let e : visits_beyond low.table low.at q ≡ visits_beyond l.table l.at q =
        ap (λ (x : NodeModel V). visits_beyond x.table x.at q) is in omega (arith, one, two, e)

    pub cost_ended : (before mid : ℕ) → mid + visits_beyond l.table l.at q ≡ before + visits_beyond s.table s.at q → (after : ℕ) →
        after ≡ mid + visits_beyond low.table low.at q → after ≡ before + visits_beyond s.table s.at q
    cost_ended before mid one after two = let e : visits_beyond low.table low.at q ≡ visits_beyond l.table l.at q =
        ap (λ (x : NodeModel V). visits_beyond x.table x.at q) is in omega (arith, one, two, e)
