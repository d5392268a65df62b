-- The copies of a message to a group: their keys differ, they come in order, and what puts them can be undone.
use Rattle.std.proofs.Common.{◌≡◌, ℕ, zero, suc, ◌+◌, ◌<◌, Bool, true, false, List, [], ◌∷◌, ◌++◌, length, get_or, map, take, refl, ap, sym, ◌∙◌, subst, arith}
use Rattle.std.specs.Prelude.{◌==◌, ◌&&◌}
use Rattle.std.specs.List.{All, AllPairs, filter, list_any}
use Rattle.std.specs.Ordering.{nat_cmp, ordering_then, MatchOrdering}
use Rattle.std.specs.declared.cmp.Ordering.{Ordering}
use Rattle.std.specs.declared.cmp.Ordering.TheVariants.{Less, Equal, Greater}
use Rattle.std.specs.Cmp.{ranks}
use Rattle.std.specs.Cmp.Lexicographic.{slice_cmp}
use Rattle.std.proofs.lemmas.List.Elements.{All-cons, All-append, All-map, All-filter, All-weaker, All-get_or}
use Rattle.std.proofs.Math.Seq.{take-append_seam}
use Rattle.base.proofs.Numbers.{more_not_same, first_less}
use Rattle.mailbox.specs.declared.key.Key.{Key}
use Rattle.mailbox.specs.Values.{Item, Mailed}
use Rattle.mailbox.specs.Item.{same_kind, same_key, is_at}
use Rattle.mailbox.specs.Order.{kind_number, IsBefore, ComesLast}
use Rattle.mailbox.specs.Mail.{holds}
use Rattle.mailbox.specs.GroupPost.{group_posted, addressed, shortened}
use Rattle.mailbox.proofs.Lists.{none_passes, any_of_none, pairs_head, pairs_tail}
use Rattle.mailbox.proofs.Sound.{is_before}

-- copies for two members have two keys
pub other_key : (w : Item) (a b : ℕ) → a < b → same_key (addressed w b).key (addressed w a).key ≡ false
other_key w a b below = ap (λ c. c && (w.key.source == w.key.source) && (w.key.reference == w.key.reference) && same_kind w.key.kind w.key.kind) (more_not_same a b below)

itself_equal : (x : ℕ) (order : Ordering) → MatchOrdering order (x < x) (x ≡ x) (x < x) → order ≡ Equal
itself_equal x Less h = absurd (omega (arith, h))
itself_equal x Equal h = refl
itself_equal x Greater h = absurd (omega (arith, h))

abbrev rest_of_place : Item → List ℕ
rest_of_place w = w.key.source ∷ w.key.reference ∷ kind_number w.key.kind ∷ []

-- and the one for the smaller member comes before
pub before_other : (w : Item) (a b : ℕ) → a < b → IsBefore (addressed w a) (addressed w b)
before_other w a b below =
    ap (λ order. ordering_then order (slice_cmp nat_cmp (a ∷ rest_of_place w) (b ∷ rest_of_place w))) (itself_equal w.number (nat_cmp w.number w.number) (ranks w.number w.number))
    ∙ ap (λ order. ordering_then order (slice_cmp nat_cmp (rest_of_place w) (rest_of_place w))) (first_less a b (nat_cmp a b) (ranks a b) below)

-- those before an element of a rising list are below it
below_next : (members : List ℕ) (i d : ℕ) → AllPairs (λ a b. a < b) members → i < length members → All (λ a. a < get_or members i d) (take i members)
below_next [] i d rising below = absurd (omega (arith, below))
below_next (x ∷ xs) zero d rising below = λ k e less. absurd (omega arith)
below_next (x ∷ xs) (suc i) d rising below =
    All-cons (λ a. a < get_or xs i d) x (take i xs) (All-get_or (λ b. x < b) xs i d (omega (arith, below)) (pairs_head (λ a b. a < b) x xs rising))
    (below_next xs i d (pairs_tail (λ a b. a < b) x xs rising) (omega (arith, below)))

module _ (w : Item) (receives : ℕ → Bool) where
  -- the copies for the first so many members
  abbrev pub made : List ℕ → List Item
  made members = map (addressed w) (filter receives members)

  -- the copy for the next one comes last, under a key of its own
  pub next_is_new : (m : Mailed) (members : List ℕ) (i member : ℕ) → AllPairs (λ a b. a < b) members → All (λ o. o.number < w.number) m.items
      → list_any (λ d. receives d && holds m (addressed w d).key) members ≡ false → i < length members → member ≡ get_or members i member → receives member ≡ true
      → ComesLast (group_posted m (made (take i members))) w.number (addressed w member).key × (holds (group_posted m (made (take i members))) (addressed w member).key ≡ false)
  next_is_new m members i member rising newest free below is here =
      let k : Key = (addressed w member).key in
      let smaller : All (λ a. a < member) (take i members) = subst (λ d. All (λ a. a < d) (take i members)) (sym is) (below_next members i member rising below) in
      let chosen : All (λ a. a < member) (filter receives (take i members)) = All-filter receives (λ a. a < member) (take i members) smaller in
      let alone : (receives member && holds m k) ≡ false =
      subst (λ d. (receives d && holds m (addressed w d).key) ≡ false) (sym is)
      (All-get_or (λ d. (receives d && holds m (addressed w d).key) ≡ false) members i member below
      (none_passes (λ d. receives d && holds m (addressed w d).key) members free)) in
      let none : holds m k ≡ false = ap (λ b. b && holds m k) (sym here) ∙ alone in (
        All-append (λ o. IsBefore o (addressed w member)) m.items (made (take i members))
            (All-weaker (λ o. o.number < w.number) (λ o. IsBefore o (addressed w member)) (λ o less. is_before o.number w.number o.key k less) m.items
            newest)
            (All-map (λ o. IsBefore o (addressed w member)) (addressed w) (filter receives (take i members))
            (All-weaker (λ a. a < member) (λ a. IsBefore (addressed w a) (addressed w member)) (λ a less. before_other w a member less)
            (filter receives (take i members)) chosen)),
        any_of_none (is_at k) (m.items ++ made (take i members)) (All-append (λ o. is_at k o ≡ false) m.items (made (take i members)) (none_passes (is_at k) m.items none)
            (All-map (λ o. is_at k o ≡ false) (addressed w) (filter receives (take i members))
            (All-weaker (λ a. a < member) (λ a. is_at k (addressed w a) ≡ false) (λ a less. other_key w a member less)
            (filter receives (take i members)) chosen))),
      )

-- what was put at the end is taken away again
pub taken_back : (m : Mailed) (ws : List Item) → shortened (group_posted m ws) (length m.items) ≡ m
taken_back m ws = ap (λ os. record { room = m.room; items = os }) (take-append_seam m.items ws)
