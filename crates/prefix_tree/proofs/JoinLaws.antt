-- A node that gives its place to its one side.
use Rattle.std.proofs.Common.{◌≡◌, Bool, true, false, [], ◌∷◌, ◌++◌, Option, Some, None, refl, sym, ap, ◌∙◌}
use mathlib.Core.Bool.{false≢true}
use Rattle.std.specs.Prelude.{IsTrue, not, ◌&&◌, ◌||◌}
use Rattle.std.specs.Option.{is_some, is_none}
use Rattle.std.specs.FinMap as map
use Rattle.std.specs.declared.boxed.Box.{Box}
use Rattle.base.proofs.Bools.{first_false, second_false}
use Rattle.base.proofs.Options.{none_of}
use Rattle.identity.specs.Path.{Path, begins}
use Rattle.prefix_tree.specs.declared.node.Node.TheInside.{Inside}
use Rattle.prefix_tree.specs.Inside.Around.{NodeModel, around, table_of, IsLoose, IsUnder, node_view}
use Rattle.prefix_tree.proofs.Begins.{begins_trans, begins_self, side_begins}
use Rattle.prefix_tree.proofs.AroundLaws.{around_zero, around_one}
use Rattle.prefix_tree.proofs.NodeLaws.{at_is, table_is, fits, zero_keys, one_keys}
use Rattle.prefix_tree.proofs.NodePlaces.{place_around, goes_link}
use Rattle.prefix_tree.specs.Visits.{is_place}

pub none_if : {X : Type 0} → (o : Option X) → is_none o ≡ true → o ≡ None
none_if None e = refl
none_if (Some x) e = absurd (false≢true e)

some_of : {X : Type 0} → (o : Option X) → is_none o ≡ false → is_some o ≡ true
some_of None e = absurd (false≢true (sym e))
some_of (Some x) e = refl

one_not : (a b : Bool) → (a && b) ≡ false → b ≡ true → a ≡ false
one_not true b e f = absurd (false≢true (sym e ∙ f))
one_not false b e f = refl

pub under_up : {V A : Type 0} → (p r : Path) (o : Option (Box (NodeModel V) A)) → begins p r ≡ true → IsUnder r o → IsUnder p o
under_up p r None begun h = tt
under_up p r (Some b) begun h = record { loose = record { extends = begins_trans p r b.value.at begun h.loose.extends; keys = h.loose.keys; sound = h.loose.sound }; place = h.place }

-- a node has a value or both sides where the map says that it is a place
pub place_parts : {V A : Type 0} → (n : Inside V A) (d : NodeModel V) (seen : node_view n.at n.value n.zero n.one ≡ d) → IsTrue d.sound →
    is_place d.table d.at ≡ (is_some n.value || is_some n.zero && is_some n.one)
place_parts n d seen sound =
    (λ i. is_place (sym (table_is n d seen) i) (sym (at_is n d seen) i))
    ∙ place_around n.at n.value _ _ (zero_keys n d seen sound) (one_keys n d seen sound)
    ∙ (λ i. is_some n.value || goes_link (n.at ++ false ∷ []) n.zero (fits n d seen sound).0 i && goes_link (n.at ++ true ∷ []) n.one (fits n d seen sound).1 i)

module _ {V A : Type 0} (n : Inside V A) (d : NodeModel V) (seen : node_view n.at n.value n.zero n.one ≡ d) (sound : IsTrue d.sound) (lone : is_place d.table d.at ≡ false) where
  not_full : (is_some n.value || is_some n.zero && is_some n.one) ≡ false
  not_full = sym (place_parts n d seen sound) ∙ lone

  bare : n.value ≡ None
  bare = none_of n.value (first_false _ _ not_full)

  pub only_zero : is_none n.one ≡ true → table_of n.zero ≡ d.table
  only_zero none =
      sym (around_zero n.at (table_of n.zero) (zero_keys n d seen sound))
      ∙ (λ i. around n.at (sym bare i) (table_of n.zero) (table_of (sym (none_if n.one none) i))) ∙ table_is n d seen

  pub only_one : is_none n.one ≡ false → table_of n.one ≡ d.table
  only_one some =
      let zero : n.zero ≡ None = none_of n.zero (one_not _ _ (second_false _ _ not_full) (some_of n.one some)) in
      sym (around_one n.at (table_of n.one) (one_keys n d seen sound))
      ∙ (λ i. around n.at (sym bare i) (table_of (sym zero i)) (table_of n.one)) ∙ table_is n d seen

  pub zero_up : (p : Path) → IsLoose p d → IsUnder p n.zero
  zero_up p loose = under_up p (n.at ++ false ∷ []) n.zero (ends p n.at false (ap (begins p) (at_is n d seen) ∙ loose.extends)) (fits n d seen sound).0
    where
      ends : (p r : Path) (b : Bool) → begins p r ≡ true → begins p (r ++ b ∷ []) ≡ true
      ends p r b e = begins_trans p r (r ++ b ∷ []) e (side_begins r (r ++ b ∷ []) b (begins_self (r ++ b ∷ [])))

  pub one_up : (p : Path) → IsLoose p d → IsUnder p n.one
  one_up p loose = under_up p (n.at ++ true ∷ []) n.one (ends p n.at true (ap (begins p) (at_is n d seen) ∙ loose.extends)) (fits n d seen sound).1
    where
      ends : (p r : Path) (b : Bool) → begins p r ≡ true → begins p (r ++ b ∷ []) ≡ true
      ends p r b e = begins_trans p r (r ++ b ∷ []) e (side_begins r (r ++ b ∷ []) b (begins_self (r ++ b ∷ [])))

-- what the code's `is_none` says
pub none_test : {X : Type 0} → (o : Option X) (b c : Bool) → is_some o ≡ not b → b ≡ c → is_none o ≡ c
none_test None true c e f = f
none_test None false c e f = absurd (false≢true e)
none_test (Some x) true c e f = absurd (false≢true (sym e))
none_test (Some x) false c e f = f
