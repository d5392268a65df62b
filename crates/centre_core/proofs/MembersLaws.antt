-- The radios that are attached to a group come in order of number, each once.
use Rattle.std.proofs.Common.{◌≡◌, ℕ, ◌<◌, Bool, true, false, cond, List, [], ◌∷◌, map, refl, sym, ◌∙◌, ap, subst, arith, Option, Some, None}
use Rattle.std.specs.Prelude.{T, ◌==◌, ◌&&◌}
use Rattle.std.specs.List.{All, AllPairs}
use Rattle.std.specs.Ordering.{nat_cmp, ordering_then, is_lt, is_eq, eq_by_cmp, MatchOrdering}
use Rattle.std.specs.declared.cmp.Ordering.{Ordering}
use Rattle.std.specs.declared.cmp.Ordering.TheVariants.{Less, Equal, Greater}
use Rattle.std.specs.Cmp.{ranks}
use Rattle.std.specs.FinMap as finite
use Rattle.std.specs.FinMap.Entries.{find, below_all, is_sorted}
use mathlib.Core.Bool.{false≢true}
use Rattle.std.proofs.lemmas.List.Elements.{All-nil, All-cons, All-head, All-tail, All-weaker}
use Rattle.std.proofs.lemmas.List.Kept.{AllPairs-cons}
use Rattle.base.proofs.Numbers.{same_by_test}
use Rattle.group_attach.specs.Attached.{Pair, Usage, Attached, pair_cmp, attachment_of, of_group}
use Rattle.centre_core.specs.State.{State}
use Rattle.centre_core.specs.Step.{members}

abbrev Entry : Type 0
Entry = Pair × Usage

abbrev is_of : ℕ → Entry → Type 0
is_of group e = e.0.1 ≡ group

abbrev radios : List Entry → List ℕ
radios es = map (λ a. a.itsi) (map attachment_of es)

left : (a b : Bool) → T (a && b) → T a
left true b h = tt
left false b h = h

right : (a b : Bool) → T (a && b) → T b
right true b h = h
right false b h = absurd h

not_below_itself : (g : ℕ) (o : Ordering) → MatchOrdering o (g < g) (g ≡ g) (g < g) → T (is_lt o) → ⊥
not_below_itself g Less h t = omega (arith, h)
not_below_itself g Equal h t = t
not_below_itself g Greater h t = t

-- of two pairs of one group the lower one has the lower radio
lower_by : (a b g : ℕ) (o : Ordering) → MatchOrdering o (a < b) (a ≡ b) (b < a) → T (is_lt (ordering_then o (nat_cmp g g))) → a < b
lower_by a b g Less h t = h
lower_by a b g Equal h t = absurd (not_below_itself g (nat_cmp g g) (ranks g g) t)
lower_by a b g Greater h t = absurd t

lower : (x y : Pair) (g : ℕ) → x.1 ≡ g → y.1 ≡ g → T (is_lt (pair_cmp x y)) → x.0 < y.0
lower x y g e f t =
    lower_by x.0 y.0 g (nat_cmp x.0 y.0) (ranks x.0 y.0)
    (subst (λ n. T (is_lt (ordering_then (nat_cmp x.0 y.0) (nat_cmp n g)))) e (subst (λ n. T (is_lt (ordering_then (nat_cmp x.0 y.0) (nat_cmp x.1 n)))) f t))

above : (x : Pair) (g : ℕ) (es : List Entry) → x.1 ≡ g → All (is_of g) es → T (below_all pair_cmp x es) → All (λ n. x.0 < n) (radios es)
above x g [] e all below = All-nil (λ n. x.0 < n)
above x g (y ∷ es) e all below =
    All-cons (λ n. x.0 < n) y.0.0 (radios es) (lower x y.0 g e (All-head (is_of g) y es all) (left _ _ below)) (above x g es e (All-tail (is_of g) y es all) (right _ _ below))

rising : (g : ℕ) (es : List Entry) → All (is_of g) es → T (is_sorted pair_cmp es) → AllPairs (λ a b. a < b) (radios es)
rising g [] all sorted = λ i j d less below. absurd (omega arith)
rising g (y ∷ es) all sorted =
    let rest : All (is_of g) es = All-tail (is_of g) y es all in
    AllPairs-cons (λ a b. a < b) y.0.0 (radios es) (above y.0 g es (All-head (is_of g) y es all) rest (left _ _ sorted)) (rising g es rest (right _ _ sorted))

itself : (a : ℕ) (o : Ordering) → MatchOrdering o (a < a) (a ≡ a) (a < a) → is_eq o ≡ true
itself a Less h = absurd (omega (arith, h))
itself a Equal h = refl
itself a Greater h = absurd (omega (arith, h))

both_eq : (o r : Ordering) → is_eq o ≡ true → is_eq r ≡ true → is_eq (ordering_then o r) ≡ true
both_eq Less r e f = e
both_eq Equal r e f = f
both_eq Greater r e f = e

tied_itself : (q : Pair) → eq_by_cmp pair_cmp q q ≡ true
tied_itself q = both_eq (nat_cmp q.0 q.0) (nat_cmp q.1 q.1) (itself q.0 (nat_cmp q.0 q.0) (ranks q.0 q.0)) (itself q.1 (nat_cmp q.1 q.1) (ranks q.1 q.1))

no_entry : (b : Bool) (v : Usage) (o : Option Usage) → cond b (Some v) o ≡ None → (b ≡ false) × (o ≡ None)
no_entry true v o e = cc
no_entry false v o e = (refl, e)

-- where nothing is found outside a test, all entries pass it
module _ (p : Pair → Bool) where
  abbrev IsInside : List Entry → Type 0
  IsInside es = (q : Pair) → p q ≡ false → find pair_cmp q es ≡ None

  passes_by : (e : Entry) (es : List Entry) (b : Bool) → p e.0 ≡ b → IsInside (e ∷ es) → p e.0 ≡ true
  passes_by e es true is inside = is
  passes_by e es false is inside = absurd (false≢true (sym (no_entry (eq_by_cmp pair_cmp e.0 e.0) e.1 (find pair_cmp e.0 es) (inside e.0 is)).0 ∙ tied_itself e.0))

  all_pass : (es : List Entry) → IsInside es → All (λ e. p e.0 ≡ true) es
  all_pass [] inside = All-nil (λ e. p e.0 ≡ true)
  all_pass (e ∷ es) inside =
      All-cons (λ e. p e.0 ≡ true) e es (passes_by e es (p e.0) refl inside)
      (all_pass es (λ q out. (no_entry (eq_by_cmp pair_cmp q e.0) e.1 (find pair_cmp q es) (inside q out)).1))

second_equal : (o r : Ordering) → ordering_then o r ≡ Equal → r ≡ Equal
second_equal Less r e = absurd cc
second_equal Equal r e = e
second_equal Greater r e = absurd cc

alike : (g : ℕ) (q x : Pair) → pair_cmp q x ≡ Equal → (x.1 == g) ≡ (q.1 == g)
alike g q x e = ap (λ n. n == g) (sym (finite.nat_cmp-IsAntisymmetric q.1 x.1 (second_equal (nat_cmp q.0 x.0) (nat_cmp q.1 x.1) e)))

-- all entries of a group's part are of the group
of_one_group : (m : Attached) (g : ℕ) → All (is_of g) (finite.entries (of_group m g))
of_one_group m g =
    let is_in : Pair → Bool = λ pair. pair.1 == g in
    All-weaker (λ (e : Entry). is_in e.0 ≡ true) (is_of g) (λ e h. same_by_test e.0.1 g h) (finite.entries (of_group m g))
    (all_pass is_in (finite.entries (of_group m g)) (λ q out. sym (finite.get-entries (of_group m g) q) ∙ finite.get-retain_keys m is_in q (alike g q) ∙ ap (λ b. cond b (finite.get m q) None) out))

members_rise : (s : State) (group : ℕ) → AllPairs (λ a b. a < b) (members s group)
members_rise s group = rising group (finite.entries (of_group s.groups group)) (of_one_group s.groups group) (finite.entries_sorted (of_group s.groups group))

pub list_rises : (s : State) (group : ℕ) (list : List ℕ) → list ≡ members s group → AllPairs (λ a b. a < b) list
list_rises s group list is = subst (λ ms. AllPairs (λ a b. a < b) ms) (sym is) (members_rise s group)
