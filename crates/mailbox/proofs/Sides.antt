-- The places at and below a node: those of its one side, its own, those of the other.
use Rattle.std.proofs.Common.{◌≡◌, ℕ, zero, suc, ◌+◌, ◌<◌, ◌≤◌, Bool, true, false, cond, List, [], ◌∷◌, ◌++◌, length, refl, ap, sym, ◌∙◌, subst, arith, Option, Some, None, Bor}
use Rattle.std.specs.Prelude.{◌*◌, max, is_some, nat_lt, not, ◌||◌}
use Rattle.std.specs.List.{All, AllPairs, filter, find, list_any}
use Rattle.std.specs.Option.{option_copied}
use Rattle.std.specs.Ordering.{is_eq, is_lt, ordering_reverse}
use Rattle.std.specs.Cmp.{IsTotalOrder, on_total}
use Rattle.std.specs.declared.cmp.Ordering.{Ordering}
use Rattle.std.specs.declared.cmp.Ordering.TheVariants.{Less, Equal, Greater}
use Rattle.std.specs.declared.boxed.Box.{Box}
use Rattle.std.proofs.lemmas.Bool.Decides.{nat_tests}
use mathlib.Core.List.{append_assoc}
use Rattle.std.proofs.Math.Nat.{le-max_right}
use Rattle.std.proofs.lemmas.List.{length-append}
use Rattle.std.proofs.lemmas.Bool.{false≢true, false_from_ne_true, ltb-true, lt-ltb}
use Rattle.std.proofs.lemmas.Cmp.{nat_list_cmp_total}
use Rattle.std.proofs.lemmas.List.Elements.{All-nil, All-cons, All-head, All-tail, All-weaker, filter-append}
use Rattle.std.proofs.lemmas.List.Folds.{list_any-append}
use Rattle.base.proofs.Bools.{is_less as less_is}
use Rattle.prefix_tree.specs.Following.{is_after}
use Rattle.mailbox.specs.declared.key.Key.{Key}
use Rattle.mailbox.specs.declared.place.ItemPlace.{ItemPlace}
use Rattle.mailbox.specs.Order.{place_at, named_cmp}
use Rattle.mailbox.specs.Inside.Boxes.{name_of}
use Rattle.mailbox.specs.Inside.Places.{place_cmp, same_place, InOrder, Branch, soonest, is_due, places_of, height_of, all_of, branch, EndsWith}
use Rattle.mailbox.proofs.Lists.{pairs_head, pairs_tail, filter_all, any_of_none}

module _ {X : Type 0} where
  middle : (P : X → Type 0) (xs : List X) (x : X) (ys : List X) → All P (xs ++ x ∷ ys) → P x
  middle P [] x ys h = All-head P x ys h
  middle P (y ∷ xs) x ys h = middle P xs x ys (All-tail P y (xs ++ x ∷ ys) h)

  pub none_found : (test : X → Bool) (xs : List X) → All (λ x. test x ≡ false) xs → find test xs ≡ None
  none_found test [] h = refl
  none_found test (x ∷ xs) h = ap (λ b. cond b (Some x) (find test xs)) (All-head (λ y. test y ≡ false) x xs h) ∙ none_found test xs (All-tail (λ y. test y ≡ false) x xs h)

  abbrev or_found : Option X → Option X → Option X
  or_found None o = o
  or_found (Some x) o = Some x

  one_or : (b : Bool) (x : X) (f o : Option X) → cond b (Some x) (or_found f o) ≡ or_found (cond b (Some x) f) o
  one_or true x f o = refl
  one_or false x f o = refl

  -- what is found in two lists, one after the other
  found_in : (test : X → Bool) (xs ys : List X) → find test (xs ++ ys) ≡ or_found (find test xs) (find test ys)
  found_in test [] ys = refl
  found_in test (x ∷ xs) ys = ap (cond (test x) (Some x)) (found_in test xs ys) ∙ one_or (test x) x (find test xs) (find test ys)

  pairs_before : (R : X → X → Type 0) (xs : List X) (x : X) (ys : List X) → AllPairs R (xs ++ x ∷ ys) → All (λ y. R y x) xs
  pairs_before R [] x ys h = All-nil (λ y. R y x)
  pairs_before R (y ∷ xs) x ys h = All-cons (λ z. R z x) y xs (middle (R y) xs x ys (pairs_head R y (xs ++ x ∷ ys) h)) (pairs_before R xs x ys (pairs_tail R y (xs ++ x ∷ ys) h))

  pairs_back : (R : X → X → Type 0) (xs ys : List X) → AllPairs R (xs ++ ys) → AllPairs R ys
  pairs_back R [] ys h = h
  pairs_back R (x ∷ xs) ys h = pairs_back R xs ys (pairs_tail R x (xs ++ ys) h)

  all_prefix : (P : X → Type 0) (xs ys : List X) → All P (xs ++ ys) → All P xs
  all_prefix P [] ys h = All-nil P
  all_prefix P (x ∷ xs) ys h = All-cons P x xs (All-head P x (xs ++ ys) h) (all_prefix P xs ys (All-tail P x (xs ++ ys) h))

  pairs_cons : (R : X → X → Type 0) (x : X) (xs : List X) → All (R x) xs → AllPairs R xs → AllPairs R (x ∷ xs)
  pairs_cons R x xs first rest zero zero d less below = absurd (omega (arith, less))
  pairs_cons R x xs first rest zero (suc j) d less below = first j d (omega (arith, below))
  pairs_cons R x xs first rest (suc i) zero d less below = absurd (omega (arith, less))
  pairs_cons R x xs first rest (suc i) (suc j) d less below = rest i j d (omega (arith, less)) (omega (arith, below))

  pairs_prefix : (R : X → X → Type 0) (xs ys : List X) → AllPairs R (xs ++ ys) → AllPairs R xs
  pairs_prefix R [] ys h = λ i j d less below. absurd (omega (arith, below))
  pairs_prefix R (x ∷ xs) ys h = pairs_cons R x xs (all_prefix (R x) xs ys (pairs_head R x (xs ++ ys) h)) (pairs_prefix R xs ys (pairs_tail R x (xs ++ ys) h))

-- nothing is due where the first ends later
pub none_due : (moment : ℕ) (places : List ItemPlace) → moment < soonest places → find (is_due moment) places ≡ None
none_due moment [] before = refl
none_due moment (p ∷ ps) before =
    let here : is_due moment p ≡ false = grind (arith, nat_tests, before) in
    let rest : moment < soonest ps = grind (arith, before) in
    ap (λ b. cond b (Some p) (find (is_due moment) ps)) here ∙ none_due moment ps rest

-- so too of the places that a link leads to
pub not_due : {A : Type 0} (o : Option (Box Branch A)) (b : Box Branch A) (v : Branch) (is : o ≡ Some b) (at : v ≡ b.value) (moment : ℕ) →
    nat_lt moment (soonest v.places) ≡ true → None ≡ find (is_due moment) (places_of o)
not_due o b v is at moment later = sym (ap (find (is_due moment)) (ap places_of is ∙ ap (λ (w : Branch). w.places) (sym at)) ∙ none_due moment v.places (ltb-true _ _ later))

-- something is due where the first has ended
pub some_due : (moment : ℕ) (places : List ItemPlace) → moment < 18446744073709551615 → nat_lt moment (soonest places) ≡ false → is_some (find (is_due moment) places) ≡ true
some_due moment [] before ended = absurd (false≢true (sym ended ∙ lt-ltb moment 18446744073709551615 before))
some_due moment (p ∷ ps) before ended =
    elim (is_due moment p) as (λ b. is_due moment p ≡ b → is_some (cond b (Some p) (find (is_due moment) ps)) ≡ true) [
      | true ↦ λ e. refl
      | false ↦ λ e. some_due moment ps before (grind (arith, nat_tests, ended, e))
    ] refl

-- so too of the places that a link leads to
pub some_left : {A : Type 0} (o : Option (Box Branch A)) (b : Box Branch A) (v : Branch) (is : o ≡ Some b) (at : v ≡ b.value) (moment : ℕ) →
    moment < 18446744073709551615 → nat_lt moment (soonest v.places) ≡ false → is_some (find (is_due moment) (places_of o)) ≡ true
some_left o b v is at moment before ended = ap (λ ps. is_some (find (is_due moment) ps)) (ap places_of is ∙ ap (λ (w : Branch). w.places) (sym at)) ∙ some_due moment v.places before ended

-- what is borrowed of something is something
pub copied_some : {T : Type 0} (r : Option (Bor T)) (o : Option T) → option_copied r ≡ o → is_some o ≡ true → is_some r ≡ true
copied_some None o is some = ap is_some is ∙ some
copied_some (Some x) o is some = refl

place_total : IsTotalOrder place_cmp
place_total = on_total (λ (p : ItemPlace). place_at p.number p.key) nat_list_cmp_total

reversed : (p q : ItemPlace) (r : Ordering) → place_cmp q p ≡ r → place_cmp p q ≡ ordering_reverse r
reversed p q r e = place_total.antisymm p q ∙ ap ordering_reverse e

-- a place that another comes before or after is not the same
off : (p q : ItemPlace) (r : Ordering) → place_cmp p q ≡ r → is_eq r ≡ false → same_place p q ≡ false
off p q r e not_eq = ap is_eq e ∙ not_eq

module _ (p own : ItemPlace) where
  -- what comes after a place, and what comes before it, where p is before it, it, or after it
  after_less : place_cmp p own ≡ Less → (q : ItemPlace) → place_cmp own q ≡ Less → same_place p q ≡ false
  after_less e q less = off p q Less (place_total.trans p own q e less) refl

  after_equal : place_cmp p own ≡ Equal → (q : ItemPlace) → place_cmp own q ≡ Less → same_place p q ≡ false
  after_equal e q less = off p q Less (place_total.congr p own q e ∙ less) refl

  before_equal : place_cmp p own ≡ Equal → (q : ItemPlace) → place_cmp q own ≡ Less → same_place p q ≡ false
  before_equal e q less = off p q Greater (place_total.congr p own q e ∙ reversed own q Less less) refl

  before_greater : place_cmp p own ≡ Greater → (q : ItemPlace) → place_cmp q own ≡ Less → same_place p q ≡ false
  before_greater e q less = off p q Greater (reversed p q Less (place_total.trans q own p less (reversed own p Greater e))) refl

-- a list in order, parted at a place
module _ (es : List ItemPlace) (own : ItemPlace) (ls : List ItemPlace) (order : InOrder (es ++ own ∷ ls)) where
  abbrev IsBeforePlace : ItemPlace → ItemPlace → Type 0
  IsBeforePlace a b = place_cmp a b ≡ Less

  afters : All (λ q. place_cmp own q ≡ Less) ls
  afters = pairs_head IsBeforePlace own ls (pairs_back IsBeforePlace es (own ∷ ls) order)

  befores : All (λ q. place_cmp q own ≡ Less) es
  befores = pairs_before IsBeforePlace es own ls order

  pub order_earlier : InOrder es
  order_earlier = pairs_prefix IsBeforePlace es (own ∷ ls) order

  pub order_later : InOrder ls
  order_later = pairs_tail IsBeforePlace own ls (pairs_back IsBeforePlace es (own ∷ ls) order)

  module _ (p : ItemPlace) where
    abbrev test : ItemPlace → Bool
    test q = same_place p q

    abbrev others : List ItemPlace → List ItemPlace
    others places = filter (λ q. not (test q)) places

    others_with_own : (b : Bool) → test own ≡ b → others (own ∷ ls) ≡ cond (not b) (own ∷ others ls) (others ls)
    others_with_own b e = ap (λ c. cond (not c) (own ∷ others ls) (others ls)) e

    -- the place goes on the earlier side, where it comes before the node's
    pub gone_earlier : place_cmp p own ≡ Less → (left : List ItemPlace) → left ≡ others es → left ++ own ∷ ls ≡ others (es ++ own ∷ ls)
    gone_earlier e left is =
        (λ i. is i ++ own ∷ sym (filter_all test ls (All-weaker (λ q. place_cmp own q ≡ Less) (λ q. test q ≡ false) (after_less p own e) ls afters)) i)
        ∙ ap (λ places. others es ++ places) (sym (others_with_own false (off p own Less e refl))) ∙ sym (filter-append (λ q. not (test q)) es (own ∷ ls))

    pub gone_later : place_cmp p own ≡ Greater → (left : List ItemPlace) → left ≡ others ls → es ++ own ∷ left ≡ others (es ++ own ∷ ls)
    gone_later e left is =
        (λ i. sym (filter_all test es (All-weaker (λ q. place_cmp q own ≡ Less) (λ q. test q ≡ false) (before_greater p own e) es befores)) i ++ own ∷ is i)
        ∙ ap (λ places. others es ++ places) (sym (others_with_own false (off p own Greater e refl))) ∙ sym (filter-append (λ q. not (test q)) es (own ∷ ls))

    pub gone_here : place_cmp p own ≡ Equal → es ++ ls ≡ others (es ++ own ∷ ls)
    gone_here e =
        (λ i. sym (filter_all test es (All-weaker (λ q. place_cmp q own ≡ Less) (λ q. test q ≡ false) (before_equal p own e) es befores)) i
        ++ sym (filter_all test ls (All-weaker (λ q. place_cmp own q ≡ Less) (λ q. test q ≡ false) (after_equal p own e) ls afters)) i)
        ∙ ap (λ places. others es ++ places) (sym (others_with_own true (ap is_eq e))) ∙ sym (filter-append (λ q. not (test q)) es (own ∷ ls))

    any_parted : list_any test (es ++ own ∷ ls) ≡ (list_any test es || (test own || list_any test ls))
    any_parted = list_any-append test es (own ∷ ls)

    or_none : (a : Bool) → (a || false) ≡ a
    or_none true = refl
    or_none false = refl

    -- if it is there, it is on its side
    pub there_earlier : place_cmp p own ≡ Less → list_any test (es ++ own ∷ ls) ≡ true → list_any test es ≡ true
    there_earlier e any =
        sym (any_parted
        ∙ (λ i. list_any test es || (off p own Less e refl i || any_of_none test ls (All-weaker (λ q. place_cmp own q ≡ Less) (λ q. test q ≡ false) (after_less p own e) ls afters) i))
        ∙ or_none (list_any test es)) ∙ any

    pub there_later : place_cmp p own ≡ Greater → list_any test (es ++ own ∷ ls) ≡ true → list_any test ls ≡ true
    there_later e any =
        sym (any_parted
        ∙ (λ i. any_of_none test es (All-weaker (λ q. place_cmp q own ≡ Less) (λ q. test q ≡ false) (before_greater p own e) es befores) i || (off p own Greater e refl i || list_any test ls)))
        ∙ any

  -- what comes before a place that is not after a key is not after it
  still_not : (after : Option (ℕ × Key)) (q : ItemPlace) → place_cmp q own ≡ Less → is_after named_cmp name_of after own ≡ false → is_after named_cmp name_of after q ≡ false
  still_not None q less not_after = absurd (false≢true (sym not_after))
  still_not (Some k) q less not_after = false_from_ne_true _ (λ is_less. false≢true (sym not_after ∙ ap is_lt (named_trans k q is_less less)))
    where
      named_trans : (k : ℕ × Key) (q : ItemPlace) → is_lt (named_cmp k (name_of q)) ≡ true → place_cmp q own ≡ Less → named_cmp k (name_of own) ≡ Less
      named_trans k q is_less less = place_total.trans (record { number = k.0; key = k.1; deadline = 0 }) q own (less_is (named_cmp k (name_of q)) is_less) less

  pub none_earlier : (after : Option (ℕ × Key)) → is_after named_cmp name_of after own ≡ false → find (is_after named_cmp name_of after) es ≡ None
  none_earlier after not_after =
      none_found (is_after named_cmp name_of after) es
      (All-weaker (λ q. place_cmp q own ≡ Less) (λ q. is_after named_cmp name_of after q ≡ false) (λ q less. still_not after q less not_after) es
      befores)

  -- what comes after a place that is after a key is after it too
  still_after : (after : Option (ℕ × Key)) (q : ItemPlace) → place_cmp own q ≡ Less → is_after named_cmp name_of after own ≡ true → is_after named_cmp name_of after q ≡ true
  still_after None q less here = refl
  still_after (Some k) q less here = ap is_lt (place_total.trans (record { number = k.0; key = k.1; deadline = 0 }) own q (less_is (named_cmp k (name_of own)) here) less)

  pub all_later : (after : Option (ℕ × Key)) → is_after named_cmp name_of after own ≡ true → All (λ q. is_after named_cmp name_of after q ≡ true) ls
  all_later after here = All-weaker (λ q. place_cmp own q ≡ Less) (λ q. is_after named_cmp name_of after q ≡ true) (λ q less. still_after after q less here) ls afters

module _ {A : Type 0} (o : Option (Box Branch A)) (b : Box Branch A) (v : Branch) (is : o ≡ Some b) (at : v ≡ b.value) (p : ItemPlace) (e l : Option (Box Branch A)) (parts : branch p e l ≡ v) where
  pub there : places_of o ≡ all_of p e l
  there = ap places_of is ∙ ap (λ (w : Branch). w.places) (sym (parts ∙ at))

  pub high : height_of o ≡ max (height_of e) (height_of l) + 1
  high = ap height_of is ∙ ap (λ (w : Branch). w.height) (sym (parts ∙ at))

  -- what a search costs that finds nothing before the later side, and something there
  pub later_cost : (r : Bool) (old own earlier later : ℕ) → r ≡ true → own ≡ old + 1 → earlier ≤ own + 1 → later ≤ earlier + cond r (2 * height_of l) 1 → later ≤ old + cond r (2 * height_of o) 1
  later_cost true old own earlier later found one two three = let up = le-max_right (height_of e) (height_of l) in omega (arith, one, two, three, up, high)
  later_cost false old own earlier later found one two three = absurd (false≢true found)

  -- what is found at the node
  found_there : (test : ItemPlace → Bool) → find test (places_of o) ≡ or_found (find test (places_of e)) (cond (test p) (Some p) (find test (places_of l)))
  found_there test = ap (find test) there ∙ found_in test (places_of e) (p ∷ places_of l)

  pub found_earlier : (test : ItemPlace → Bool) (x : ItemPlace) → Some x ≡ find test (places_of e) → Some x ≡ find test (places_of o)
  found_earlier test x found = sym (found_there test ∙ ap (λ f. or_found f (cond (test p) (Some p) (find test (places_of l)))) (sym found))

  pub found_here : (test : ItemPlace → Bool) → None ≡ find test (places_of e) → test p ≡ true → Some p ≡ find test (places_of o)
  found_here test none here = sym (found_there test ∙ (λ i. or_found (sym none i) (cond (here i) (Some p) (find test (places_of l)))))

  pub found_later : (test : ItemPlace → Bool) (r : Option ItemPlace) → None ≡ find test (places_of e) → test p ≡ false → r ≡ find test (places_of l) → r ≡ find test (places_of o)
  found_later test r none other found = found ∙ sym (found_there test ∙ (λ i. or_found (sym none i) (cond (other i) (Some p) (find test (places_of l)))))

  pub last_later : (x : ItemPlace) → EndsWith (places_of l) (Some x) → EndsWith (places_of o) (Some x)
  last_later x end = (places_of e ++ p ∷ end.0, there ∙ ap (λ places. places_of e ++ p ∷ places) end.1 ∙ sym (append_assoc (places_of e) (p ∷ end.0) (x ∷ [])))

  pub earlier_shorter : length (places_of e) < length (places_of o)
  earlier_shorter = let all = ap length there in omega (arith, all, length-append (places_of e) (p ∷ places_of l))

  pub later_shorter : length (places_of l) < length (places_of o)
  later_shorter = let all = ap length there in omega (arith, all, length-append (places_of e) (p ∷ places_of l))

  module _ (order : InOrder (places_of o)) where
    parted : InOrder (all_of p e l)
    parted = subst InOrder there order

    pub earlier_order : InOrder (places_of e)
    earlier_order = order_earlier (places_of e) p (places_of l) parted

    pub later_order : InOrder (places_of l)
    later_order = order_later (places_of e) p (places_of l) parted

    -- where the node's own place is not after a key, the first that is comes later
    pub first_later : (after : Option (ℕ × Key)) (r : Option ItemPlace) → is_after named_cmp name_of after p ≡ false →
        r ≡ find (is_after named_cmp name_of after) (places_of l) → r ≡ find (is_after named_cmp name_of after) (places_of o)
    first_later after r off found = found_later (is_after named_cmp name_of after) r (sym (none_earlier (places_of e) p (places_of l) parted after off)) off found

    module _ (q : ItemPlace) where
      pub removed_earlier : place_cmp q p ≡ Less → (left : List ItemPlace) → left ≡ filter (λ z. not (same_place q z)) (places_of e) →
          left ++ p ∷ places_of l ≡ filter (λ z. not (same_place q z)) (places_of o)
      removed_earlier less left is = gone_earlier (places_of e) p (places_of l) parted q less left is ∙ ap (filter (λ z. not (same_place q z))) (sym there)

      pub removed_later : place_cmp q p ≡ Greater → (left : List ItemPlace) → left ≡ filter (λ z. not (same_place q z)) (places_of l) →
          places_of e ++ p ∷ left ≡ filter (λ z. not (same_place q z)) (places_of o)
      removed_later more left is = gone_later (places_of e) p (places_of l) parted q more left is ∙ ap (filter (λ z. not (same_place q z))) (sym there)

      pub removed_here : place_cmp q p ≡ Equal → places_of e ++ places_of l ≡ filter (λ z. not (same_place q z)) (places_of o)
      removed_here equal = gone_here (places_of e) p (places_of l) parted q equal ∙ ap (filter (λ z. not (same_place q z))) (sym there)

      pub is_earlier : place_cmp q p ≡ Less → list_any (same_place q) (places_of o) ≡ true → list_any (same_place q) (places_of e) ≡ true
      is_earlier less any = there_earlier (places_of e) p (places_of l) parted q less (ap (list_any (same_place q)) (sym there) ∙ any)

      pub is_later : place_cmp q p ≡ Greater → list_any (same_place q) (places_of o) ≡ true → list_any (same_place q) (places_of l) ≡ true
      is_later more any = there_later (places_of e) p (places_of l) parted q more (ap (list_any (same_place q)) (sym there) ∙ any)
