-- Each step keeps the rule of the queue.
use Rattle.std.proofs.Common.{◌≡◌, ◌≢◌, ◌⊎◌, inl, inr, ℕ, zero, suc, ◌+◌, ◌-◌, ◌<◌, ◌≤◌, ◌==◌, Bool, true, false, cond, true≢false, List, [], ◌∷◌}
use Rattle.std.proofs.Common.{◌++◌, length, set, sym, refl, ap, ◌∙◌, subst, ⊎_elim, append_assoc, length-append, arith}
use Rattle.std.specs.Prelude.{Option, Some, None, slice_get, All, ⊤}
use Rattle.atomic_table.specs.Seated.{TableId}
use Rattle.station_queue.specs.Ends.{Sending, sending}
use Rattle.std.proofs.lemmas.List.{append-nil}
use Rattle.std.proofs.lemmas.List.Elements.{All-nil, All-push, All-weaker}
use Rattle.std.proofs.lemmas.Bool.Decides.{nat_tests}
use mathlib.Core.Option.{some, some-ne-none, some-injective}
use Rattle.base.proofs.Numbers.{test_by_same}
use lib.ListN.{get_elem?}
use Rattle.crossbeam_queue.specs.Fifo.{Pushes, Pops, Forks, Merges, Learns}
use Rattle.crossbeam_queue.proofs.Lists.{at_set}
use Rattle.station_queue.specs.declared.entry.Entry.{Entry}
use Rattle.station_queue.specs.declared.rule.QueueView.{QueueView}
use Rattle.station_queue.specs.Entries.{station_of, entries_of}
use Rattle.station_queue.specs.Order.{taker, sender, settled, nobody, place, places_of, HaveRoom, Fits, FitsSettled, IsInOrder, IsSameTaker, AreAllSent}

other_test : (a b : ℕ) → a ≢ b → (a == b) ≡ false
other_test a b n = grind (arith, nat_tests)

entries_of-append-go : (x : Entry) (b : Bool) (all xs ys : List Entry) → all ≡ xs ++ ys → cond b (x ∷ all) all ≡ cond b (x ∷ xs) xs ++ ys
entries_of-append-go x true all xs ys e = ap (λ l. x ∷ l) e
entries_of-append-go x false all xs ys e = e

pub entries_of-append : (s : ℕ) (xs ys : List Entry) → entries_of s (xs ++ ys) ≡ entries_of s xs ++ entries_of s ys
entries_of-append s [] ys = refl
entries_of-append s (x ∷ xs) ys = entries_of-append-go x (station_of x == s) (entries_of s (xs ++ ys)) (entries_of s xs) (entries_of s ys) (entries_of-append s xs ys)

-- one more entry of the station
of_mine : (s : ℕ) (taken items : List Entry) (x : Entry) → station_of x ≡ s → entries_of s (taken ++ (items ++ x ∷ [])) ≡ entries_of s (taken ++ items) ++ x ∷ []
of_mine s taken items x e =
    ap (entries_of s) (sym (append_assoc taken items (x ∷ []))) ∙ entries_of-append s (taken ++ items) (x ∷ []) ∙
    ap (λ b. entries_of s (taken ++ items) ++ cond b (x ∷ []) []) (test_by_same (station_of x) s e)

-- one more entry of another station
of_other : (s : ℕ) (taken items : List Entry) (x : Entry) → station_of x ≢ s → entries_of s (taken ++ (items ++ x ∷ [])) ≡ entries_of s (taken ++ items)
of_other s taken items x n =
    ap (entries_of s) (sym (append_assoc taken items (x ∷ []))) ∙ entries_of-append s (taken ++ items) (x ∷ []) ∙
    ap (λ b. entries_of s (taken ++ items) ++ cond b (x ∷ []) []) (other_test (station_of x) s n) ∙ append-nil (entries_of s (taken ++ items))

at_end : {A : Type 0} (l : List A) (a b : A) (j : ℕ) → get_elem? (l ++ a ∷ []) j ≡ some b → (get_elem? l j ≡ some b) ⊎ ((j ≡ length l) × (a ≡ b))
at_end [] a b zero e = inr (refl, some-injective a b e)
at_end [] a b (suc j) e = absurd (some-ne-none b (sym e))
at_end (x ∷ xs) a b zero e = inl e
at_end (x ∷ xs) a b (suc j) e = ⊎_elim (λ (t : get_elem? xs j ≡ some b). inl t) (λ (t : (j ≡ length xs) × (a ≡ b)). inr (ap suc t.0, t.1)) (at_end xs a b j e)

abbrev EachView : (ℕ → QueueView → Type 0) → List QueueView → Type 0
EachView F views = (pass : ℕ) (v : QueueView) → get_elem? views pass ≡ some v → F pass v

each_set : (F : ℕ → QueueView → Type 0) (views : List QueueView) (port : ℕ) (w : QueueView) → F port w → ((j : ℕ) (u : QueueView) → j ≢ port → get_elem? views j ≡ some u → F j u) → EachView F (set views port w)
each_set F views port w mine others j u e = ⊎_elim (λ (x : (j ≡ port) × (w ≡ u)). subst (λ (y : ℕ × QueueView). F y.0 y.1) (λ i. (sym x.0 i, x.1 i)) mine)
    (λ (x : (j ≢ port) × (get_elem? views j ≡ some u)). others j u x.0 x.1) (at_set views port j w u e)

-- the places of all, where the view at one place is another one
places_set : (views : List QueueView) (pass : ℕ) (v w : QueueView) → get_elem? views pass ≡ some v → places_of (set views pass w) + v.places ≡ places_of views + w.places
places_set [] pass v w e = absurd (some-ne-none v (sym e))
places_set (x ∷ xs) zero v w e = let same = ap (λ (u : QueueView). u.places) (some-injective x v e) in omega (arith, same)
places_set (x ∷ xs) (suc k) v w e = let rest = places_set xs k v w e in omega (arith, rest)

places_append : (views : List QueueView) (w : QueueView) → places_of (views ++ w ∷ []) ≡ places_of views + w.places
places_append [] w = omega arith
places_append (x ∷ xs) w = let rest = places_append xs w in omega (arith, rest)

-- a pass has no more places than there are
places_at : (views : List QueueView) (pass : ℕ) (v : QueueView) → get_elem? views pass ≡ some v → v.places ≤ places_of views
places_at views pass v e = let one = places_set views pass v nobody e in omega (arith, one)

no : {A : Type 0} → false ≡ true → A
no e = absurd (true≢false (sym e))

some_is : (a b : ℕ) → Some a ≡ Some b → a ≡ b
some_is a b e = cc

not_none : (a : ℕ) → Some a ≡ None → ⊥
not_none a e = cc

pub begins : IsInOrder [] (taker 0 [] [] 64 ∷ [])
begins = (
  0,
  (λ _. None),
  0,
  [],
  (λ s _. refl),
  each_set (Fits 0 (λ _. None) 0 [] []) (taker 0 [] [] 64 ∷ []) 0 (taker 0 [] [] 64)
      ((λ _. (refl, refl, refl)), All-nil (FitsSettled 0 (λ _. None) 0 [] []), (λ e. no e)) (λ j u other e. absurd (only j u other e)),
  omega arith,
)
  where
    only : (j : ℕ) (u : QueueView) → j ≢ 0 → get_elem? (taker 0 [] [] 64 ∷ []) j ≡ some u → ⊥
    only zero u other e = other refl
    only (suc j) u other e = some-ne-none u (sym e)

within_not : (s made n m : ℕ) → (made < s) ⊎ (s ≡ 0) → n ≡ m → m ≤ made → 0 < m → n ≡ s → ⊥
within_not s made n m late is le pos e = ⊎_elim (λ (h : made < s). let b : ⊥ = omega (arith, is, le, pos, e, h) in b) (λ (h : s ≡ 0). let b : ⊥ = omega (arith, is, le, pos, e, h) in b) late

pub puts : (n pass : ℕ) (v : QueueView) (x : Entry) → v.sends ≡ true → station_of x ≡ v.station → 0 < v.places → Pushes IsInOrder n pass v x (λ w. w ≡ sender v.station (v.sent ++ x ∷ []) (v.places - 1))
puts n pass v x may is has items views _ h at =
    let reader = h.0 in let seat = h.1 in let made = h.2 in let taken = h.3 in
    let w = sender v.station (v.sent ++ x ∷ []) (v.places - 1) in
    let room : HaveRoom (items ++ x ∷ []) (set views pass w) = let one = places_set views pass v w at in let was = h.6 in omega (arith, length-append items (x ∷ []), one, was, has) in
    let mine = (h.5 pass v at).2 may in
    let all = taken ++ (items ++ x ∷ []) in (
      w,
      (
        reader,
        seat,
        made,
        taken,
        (λ s late. of_other s taken items x (λ e. within_not s made (station_of x) v.station late is mine.1 mine.3 e) ∙ h.4 s late),
        each_set (Fits reader seat made taken all) views pass w
            ((λ e. no e), All-nil (FitsSettled reader seat made taken all), (λ _. (mine.0, mine.1, of_mine v.station taken items x is ∙ ap (λ l. l ++ x ∷ []) mine.2, mine.3)))
            (λ j u other e.
            let was = h.5 j u e in (
              was.0,
              All-weaker (FitsSettled reader seat made taken (taken ++ items)) (FitsSettled reader seat made taken all)
                  (λ k f. (f.0, f.1, of_other k.station taken items x (λ s. not_none pass (sym mine.0 ∙ (ap seat (sym is ∙ s) ∙ f.0))) ∙ f.2)) u.settled was.1,
              (λ k. let f = was.2 k in (f.0, f.1, of_other u.station taken items x (λ s. other (some_is j pass (sym f.0 ∙ (ap seat (sym s ∙ is) ∙ mine.0)))) ∙ f.2, f.3)),
            )),
        room,
      ),
      refl,
    )

some_of : (taken items : List Entry) (x : Entry) → entries_of (station_of x) (taken ++ x ∷ items) ≡ [] → ⊥
some_of taken items x none =
    not_empty (entries_of (station_of x) taken) (entries_of (station_of x) items) x
    (sym (entries_of-append (station_of x) taken (x ∷ items) ∙
    ap (λ b. entries_of (station_of x) taken ++ cond b (x ∷ entries_of (station_of x) items) (entries_of (station_of x) items))
    (test_by_same (station_of x) (station_of x) refl)) ∙ none)
  where
    not_empty : (xs ys : List Entry) (y : Entry) → xs ++ y ∷ ys ≡ [] → ⊥
    not_empty [] ys y e = cc
    not_empty (z ∷ zs) ys y e = cc

-- the entry that leaves is of a station that has a sender
of_one : (made : ℕ) (taken items : List Entry) (x : Entry) → ((s : ℕ) → (made < s) ⊎ (s ≡ 0) → entries_of s (taken ++ x ∷ items) ≡ []) → (0 < station_of x) × (station_of x ≤ made)
of_one made taken items x none = (above (station_of x) refl, below)
  where
    above : (n : ℕ) → n ≡ station_of x → 0 < station_of x
    above zero e = absurd (some_of taken items x (none (station_of x) (inr (sym e))))
    above (suc n) e = omega arith

    split : (made < station_of x) ⊎ (station_of x ≤ made)
    split = grind arith

    below : station_of x ≤ made
    below = ⊎_elim (λ (h : made < station_of x). absurd (some_of taken items x (none (station_of x) (inl h)))) (λ (h : station_of x ≤ made). h) split

pub takes : (pass : ℕ) (v : QueueView) → v.takes ≡ true → Pops IsInOrder pass v (λ x w. (w ≡ taker v.made (v.taken ++ x ∷ []) v.settled (v.places + 1)) × (0 < station_of x) × (station_of x ≤ v.made))
takes pass v may x items views h at =
    let reader = h.0 in let seat = h.1 in let made = h.2 in let taken = h.3 in
    let w = taker v.made (v.taken ++ x ∷ []) v.settled (v.places + 1) in
    let room : HaveRoom items (set views pass w) = let one = places_set views pass v w at in let was = h.6 in omega (arith, one, was) in
    let this = h.5 pass v at in
    let mine = this.0 may in
    let now = taken ++ x ∷ [] in
    let same : taken ++ (x ∷ items) ≡ now ++ items = sym (append_assoc taken (x ∷ []) items) in
    let settled_still : (u : QueueView) → All (FitsSettled reader seat made taken (taken ++ (x ∷ items))) u.settled → All (FitsSettled reader seat made now (now ++ items)) u.settled =
    λ u was. All-weaker (FitsSettled reader seat made taken (taken ++ (x ∷ items))) (FitsSettled reader seat made now (now ++ items))
    (λ k f. (f.0, f.1, ap (entries_of k.station) (sym same) ∙ f.2)) u.settled was in (
      w,
      (
        reader,
        seat,
        made,
        now,
        (λ s late. ap (entries_of s) (sym same) ∙ h.4 s late),
        each_set (Fits reader seat made now (now ++ items)) views pass w
            ((λ _. (mine.0, ap (λ l. l ++ x ∷ []) mine.1, mine.2)), settled_still v this.1, (λ e. no e))
            (λ j u other e.
            let was = h.5 j u e in (
              (λ k. absurd (other ((was.0 k).0 ∙ sym mine.0))),
              settled_still u was.1,
              (λ k. let f = was.2 k in (f.0, f.1, ap (entries_of u.station) (sym same) ∙ f.2, f.3)),
            )),
        room,
      ),
      (refl, (of_one made taken items x h.4).0, subst (λ m. station_of x ≤ m) (sym mine.2) (of_one made taken items x h.4).1),
    )

abbrev put_seat : ℕ → Option ℕ → (ℕ → Option ℕ) → ℕ → Option ℕ
put_seat s o seat k = cond (k == s) o (seat k)

seat_here : (s : ℕ) (o : Option ℕ) (seat : ℕ → Option ℕ) → put_seat s o seat s ≡ o
seat_here s o seat = ap (λ b. cond b o (seat s)) (test_by_same s s refl)

seat_else : (s : ℕ) (o : Option ℕ) (seat : ℕ → Option ℕ) (k : ℕ) → k ≢ s → put_seat s o seat k ≡ seat k
seat_else s o seat k n = ap (λ b. cond b o (seat k)) (other_test k s n)

pub forks : (pass : ℕ) (v : QueueView) → v.takes ≡ true → Forks IsInOrder pass v (taker (v.made + 1) v.taken v.settled v.places) (sender (v.made + 1) [] 0)
forks pass v may items views h at =
    let reader = h.0 in let seat = h.1 in let made = h.2 in let taken = h.3 in
    let this = h.5 pass v at in
    let mine = this.0 may in
    let left = taker (v.made + 1) v.taken v.settled v.places in
    let right = sender (v.made + 1) [] 0 in
    let vs : List QueueView = set views pass left in
    let room : HaveRoom items (vs ++ right ∷ []) = let one = places_set views pass v left at in let more = places_append vs right in let was = h.6 in omega (arith, one, more, was) in
    let new = put_seat (v.made + 1) (Some (length vs)) seat in
    let all = taken ++ items in
    let F : ℕ → QueueView → Type 0 = Fits reader new (made + 1) taken all in
    let still : (s : ℕ) → s ≤ made → new s ≡ seat s = λ s le. seat_else (v.made + 1) (Some (length vs)) seat s (λ e. omega (arith, e, le, mine.2)) in
    let settled_still : (u : QueueView) → All (FitsSettled reader seat made taken all) u.settled → All (FitsSettled reader new (made + 1) taken all) u.settled =
    λ u was. All-weaker (FitsSettled reader seat made taken all) (FitsSettled reader new (made + 1) taken all) (λ k f. (still k.station f.1 ∙ f.0, omega (arith, f.1), f.2)) u.settled was in
    let old : EachView F vs =
    each_set F views pass left ((λ _. (mine.0, mine.1, ap (λ k. k + 1) mine.2)), settled_still v this.1, (λ e. no e))
    (λ j u other e.
    let was = h.5 j u e in (
      (λ k. absurd (other ((was.0 k).0 ∙ sym mine.0))),
      settled_still u was.1,
      (λ k. let f = was.2 k in (still u.station f.1 ∙ f.0, omega (arith, f.1), f.2, f.3)),
    )) in
    let here : F (length vs) right = (
      (λ e. no e),
      All-nil (FitsSettled reader new (made + 1) taken all),
      (λ _. (seat_here (v.made + 1) (Some (length vs)) seat, omega (arith, mine.2), h.4 (v.made + 1) (inl (omega (arith, mine.2))), omega arith)),
    ) in (
      reader,
      new,
      made + 1,
      taken,
      (λ s late. h.4 s (⊎_elim (λ (q : made + 1 < s). inl (let r : made < s = omega (arith, q) in r)) (λ (q : s ≡ 0). inr q) late)),
      (λ j u e. ⊎_elim (λ (x : get_elem? vs j ≡ some u). old j u x)
          (λ (x : (j ≡ length vs) × (right ≡ u)). subst (λ (y : ℕ × QueueView). F y.0 y.1) (λ i. (sym x.0 i, x.1 i)) here) (at_end vs right u j e)),
      room,
    )

none_still : (s : ℕ) (seat : ℕ → Option ℕ) (k : ℕ) → seat k ≡ None → put_seat s None seat k ≡ None
none_still s seat k e = go (k == s)
  where
    go : (b : Bool) → cond b None (seat k) ≡ None
    go true = refl
    go false = e

pub merges : (pass : ℕ) (v : QueueView) (other : ℕ) (w : QueueView) → v.takes ≡ true → w.sends ≡ true →
    Merges IsInOrder pass v other w (taker v.made v.taken (v.settled ++ settled w.station w.sent ∷ []) v.places) nobody
merges pass v other w may came items views h at apart there =
    let reader = h.0 in let seat = h.1 in let made = h.2 in let taken = h.3 in
    let this = h.5 pass v at in
    let mine = this.0 may in
    let both = taker v.made v.taken (v.settled ++ settled w.station w.sent ∷ []) v.places in
    let room : HaveRoom items (set (set views pass both) other nobody) = let one = places_set views pass v both at in let two =
    places_set (set views pass both) other w nobody there in let was = h.6 in omega (arith, one, two, was) in
    let was : get_elem? views other ≡ some w =
    ⊎_elim (λ (x : (other ≡ pass) × (both ≡ w)). absurd (apart x.0)) (λ (x : (other ≢ pass) × (get_elem? views other ≡ some w)). x.1)
    (at_set views pass other both w there) in
    let theirs = (h.5 other w was).2 came in
    let new = put_seat w.station None seat in
    let all = taken ++ items in
    let Now : ℕ → QueueView → Type 0 = λ j y. j ≢ other → Fits reader new made taken all j y in
    let settled_still : (u : QueueView) → All (FitsSettled reader seat made taken all) u.settled → All (FitsSettled reader new made taken all) u.settled =
    λ u was. All-weaker (FitsSettled reader seat made taken all) (FitsSettled reader new made taken all) (λ k f. (none_still w.station seat k.station f.0, f.1, f.2)) u.settled was in
    let now : EachView Now (set views pass both) =
    each_set Now views pass both
    (λ _. (
      (λ _. mine),
      All-push (FitsSettled reader new made taken all) v.settled (settled w.station w.sent) (settled_still v this.1)
          (seat_here w.station None seat, theirs.1, theirs.2),
      (λ e. no e),
    ))
    (λ j u _ e apart'.
    let f = h.5 j u e in (
      f.0,
      settled_still u f.1,
      (λ k. let g = f.2 k in (seat_else w.station None seat u.station (λ s. apart' (some_is j other (sym g.0 ∙ (ap seat s ∙ theirs.0)))) ∙ g.0, g.1, g.2, g.3)),
    )) in (
      reader,
      new,
      made,
      taken,
      h.4,
      each_set (Fits reader new made taken all) (set views pass both) other nobody ((λ e. no e), All-nil (FitsSettled reader new made taken all), (λ e. no e)) (λ j y apart' e. now j y e apart'),
      room,
    )

-- the taker gives one of its places away
pub gives : (pass : ℕ) (v : QueueView) → v.takes ≡ true → 0 < v.places → Forks IsInOrder pass v (taker v.made v.taken v.settled (v.places - 1)) place
gives pass v may has items views h at =
    let reader = h.0 in let seat = h.1 in let made = h.2 in let taken = h.3 in
    let this = h.5 pass v at in
    let left = taker v.made v.taken v.settled (v.places - 1) in
    let vs : List QueueView = set views pass left in
    let F : ℕ → QueueView → Type 0 = Fits reader seat made taken (taken ++ items) in
    let old : EachView F vs = each_set F views pass left ((λ _. this.0 may), this.1, (λ e. no e)) (λ j u _ e. h.5 j u e) in
    let here : F (length vs) place = ((λ e. no e), All-nil (FitsSettled reader seat made taken (taken ++ items)), (λ e. no e)) in
    let room : HaveRoom items (vs ++ place ∷ []) = let one = places_set views pass v left at in let more = places_append vs place in let was = h.6 in omega (arith, one, more, was, has) in (
      reader,
      seat,
      made,
      taken,
      h.4,
      (λ j u e. ⊎_elim (λ (x : get_elem? vs j ≡ some u). old j u x)
          (λ (x : (j ≡ length vs) × (place ≡ u)). subst (λ (y : ℕ × QueueView). F y.0 y.1) (λ i. (sym x.0 i, x.1 i)) here) (at_end vs place u j e)),
      room,
    )

-- a sender gets the places of another pass
pub gets_back : (pass : ℕ) (v : QueueView) (other : ℕ) (w : QueueView) → v.sends ≡ true → Merges IsInOrder pass v other w (sender v.station v.sent (v.places + w.places)) nobody
gets_back pass v other w may items views h at apart there =
    let reader = h.0 in let seat = h.1 in let made = h.2 in let taken = h.3 in
    let mine = (h.5 pass v at).2 may in
    let both = sender v.station v.sent (v.places + w.places) in
    let F : ℕ → QueueView → Type 0 = Fits reader seat made taken (taken ++ items) in
    let old : EachView F (set views pass both) = each_set F views pass both ((λ e. no e), All-nil (FitsSettled reader seat made taken (taken ++ items)), (λ _. mine)) (λ j u _ e. h.5 j u e) in
    let room : HaveRoom items (set (set views pass both) other nobody) = let one = places_set views pass v both at in let two =
    places_set (set views pass both) other w nobody there in let was = h.6 in omega (arith, one, two, was) in (
      reader,
      seat,
      made,
      taken,
      h.4,
      each_set F (set views pass both) other nobody ((λ e. no e), All-nil (FitsSettled reader seat made taken (taken ++ items)), (λ e. no e)) (λ j u _ e. old j u e),
      room,
    )

-- there is room for the places of a pass beside what the queue holds
pub has_room : (pass : ℕ) (v : QueueView) → Learns IsInOrder pass v (λ items. length items + v.places ≤ 64)
has_room pass v items views h at = let few = places_at views pass v at in let was = h.6 in omega (arith, few, was)

pub same_taker : (v w : QueueView) (places : ℕ) → w ≡ taker v.made v.taken v.settled places → IsSameTaker v w
same_taker v w places is = (ap (λ (u : QueueView). u.takes) is, ap (λ (u : QueueView). u.made) is, ap (λ (u : QueueView). u.taken) is, ap (λ (u : QueueView). u.settled) is)

pub totals : (pass : ℕ) (v : QueueView) → v.takes ≡ true → Learns IsInOrder pass v (λ items. AreAllSent v.taken items v.settled)
totals pass v may items views h at =
    let f = h.5 pass v at in
    All-weaker (FitsSettled h.0 h.1 h.2 h.3 (h.3 ++ items)) (λ s. entries_of s.station (v.taken ++ items) ≡ s.sent) (λ k g. ap (λ l. entries_of k.station (l ++ items)) (f.0 may).1 ∙ g.2) v.settled f.1

pub anything : (pass : ℕ) (v : QueueView) → Learns IsInOrder pass v (λ items. ⊤)
anything pass v items views h at = tt

-- one more sender in the list of senders
pub more_senders : (n : ℕ) (xs ys : List Sending) (t u : TableId) (s : Sending) → ys ≡ xs ++ s ∷ [] → length xs + 1 ≡ n → s ≡ sending t n [] → u ≡ t
    → ((k : ℕ) → k + 1 < n → slice_get xs k ≡ Some (sending t (k + 1) [])) → (k : ℕ) → k + 1 < n + 1 → slice_get ys k ≡ Some (sending u (k + 1) [])
more_senders n xs ys t u s all long is same old k small =
    rw (all, same) (⊎_elim (λ (lt : k + 1 < n). at_prefix xs s k _ (old k lt)) (λ (eq : k ≡ length xs). at_last' xs s k eq ∙ ap Some (is ∙ ap (λ m. sending t m []) (omega arith))) (below_or))
  where
    below_or : (k + 1 < n) ⊎ (k ≡ length xs)
    below_or = grind arith

    at_prefix : (l : List Sending) (a : Sending) (j : ℕ) (b : Sending) → slice_get l j ≡ Some b → slice_get (l ++ a ∷ []) j ≡ Some b
    at_prefix [] a j b e = absurd cc
    at_prefix (x ∷ l) a zero b e = e
    at_prefix (x ∷ l) a (suc j) b e = at_prefix l a j b e

    at_last' : (l : List Sending) (a : Sending) (j : ℕ) → j ≡ length l → slice_get (l ++ a ∷ []) j ≡ Some a
    at_last' [] a j e = ap (slice_get (a ∷ [])) e
    at_last' (x ∷ l) a zero e = absurd (omega arith)
    at_last' (x ∷ l) a (suc j) e = at_last' l a j (omega arith)
