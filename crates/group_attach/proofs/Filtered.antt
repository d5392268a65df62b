-- The entries of a part of the attachments.
use Rattle.std.proofs.Common.{◌≡◌, suc, ◌≤◌, None, Bool, true, false, cond, List, [], ◌∷◌, length, map, refl, ap, sym, ◌∙◌, subst, arith}
use Rattle.std.specs.Prelude.{T, ◌&&◌, ◌==◌, not}
use Rattle.std.specs.List.{filter}
use Rattle.std.specs.FinMap as finite
use Rattle.std.specs.FinMap.Entries.{below_all, is_sorted, is_sorted-where_key, find-where_key}
use Rattle.base.proofs.Bools.{true_if}
use Rattle.group_attach.specs.declared.attachment.Attachment.{Attachment}
use Rattle.group_attach.specs.Attached.{Pair, Usage, Attached, pair_cmp, entry_of, attachment_of, listed, pair_of}
use Rattle.group_attach.specs.Applied.{passing}
use Rattle.group_attach.specs.InOrder.{IsInOrder}
use Rattle.group_attach.specs.Inside.ListedMap.{map_of}
use Rattle.group_attach.proofs.Pairs.{pairs_total, pairs_exact, pairs_tied, alike}

pub left : (a b : Bool) → T (a && b) → T a
left true b h = tt
left false b h = h

pub right : (a b : Bool) → T (a && b) → T b
right true b h = h
right false b h = absurd h

both : (a b : Bool) → T a → T b → T (a && b)
both true b h k = k
both false b h k = h

pub to_T : (b : Bool) → b ≡ true → T b
to_T b e = subst T (sym e) tt

below_passing : (x : Pair) (p : Pair × Usage → Bool) (es : List (Pair × Usage)) → T (below_all pair_cmp x es) → T (below_all pair_cmp x (filter p es))
below_passing x p [] h = tt
below_passing x p (e ∷ es) h =
    let rest = below_passing x p es (right _ _ h) in
    elim (p e) as (λ b. T (below_all pair_cmp x (cond b (e ∷ filter p es) (filter p es)))) [ true ↦ both _ _ (left _ _ h) rest | false ↦ rest ]

sorted_passing : (p : Pair × Usage → Bool) (es : List (Pair × Usage)) → T (is_sorted pair_cmp es) → T (is_sorted pair_cmp (filter p es))
sorted_passing p [] h = tt
sorted_passing p (e ∷ es) h =
    let rest = sorted_passing p es (right _ _ h) in
    elim (p e) as (λ b. T (is_sorted pair_cmp (cond b (e ∷ filter p es) (filter p es)))) [ true ↦ both _ _ (below_passing e.0 p es (left _ _ h)) rest | false ↦ rest ]

-- what is left of the map has the entries that are left
pub entries_passing : (p : Pair × Usage → Bool) (m : Attached) → finite.entries (passing p m) ≡ filter p (finite.entries m)
entries_passing p m = finite.entries-from_sorted pair_cmp (filter p (finite.entries m)) (sorted_passing p (finite.entries m) (finite.entries_sorted m))

pub retained_is_passing : (p : Pair → Bool) (m : Attached) → finite.retain_keys m p ≡ passing (λ e. p e.0) m
retained_is_passing p m =
    finite.same_map pairs_total pairs_exact _ _ (λ q.
    finite.get-retain_keys m p q (alike p q)
    ∙ ap (λ o. cond (p q) o None) (finite.get-entries m q)
    ∙ sym (find-where_key pair_cmp p q (alike p q) (finite.entries m))
    ∙ sym (finite.get-from_sorted pair_cmp (filter (λ e. p e.0) (finite.entries m)) q (is_sorted-where_key pair_cmp p (finite.entries m) (finite.entries_sorted m))))

pub entries_retained : (p : Pair → Bool) (m : Attached) → finite.entries (finite.retain_keys m p) ≡ filter (λ e. p e.0) (finite.entries m)
entries_retained p m = ap finite.entries (retained_is_passing p m) ∙ entries_passing (λ e. p e.0) m

-- the list in order, and the map that is seen in it
pub entries_of : (es : List Attachment) → IsInOrder es → finite.entries (map_of es) ≡ map entry_of es
entries_of es order = finite.entries-from_sorted pair_cmp (map entry_of es) (to_T _ order)

filtered : (p : Pair × Usage → Bool) (es : List Attachment) → filter p (map entry_of es) ≡ map entry_of (filter (λ a. p (entry_of a)) es)
filtered p [] = refl
filtered p (x ∷ xs) =
    elim (p (entry_of x)) as
    (λ b. cond b (entry_of x ∷ filter p (map entry_of xs)) (filter p (map entry_of xs)) ≡ map entry_of
    (cond b (x ∷ filter (λ a. p (entry_of a)) xs) (filter (λ a. p (entry_of a)) xs))) [
      | true ↦ ap (λ r. entry_of x ∷ r) (filtered p xs)
      | false ↦ filtered p xs
    ]

pub passing_in_order : (p : Pair × Usage → Bool) (es : List Attachment) → IsInOrder es → IsInOrder (filter (λ a. p (entry_of a)) es)
passing_in_order p es order = true_if _ (subst (λ r. T (is_sorted pair_cmp r)) (filtered p es) (sorted_passing p (map entry_of es) (to_T _ order)))

pub passing_map : (p : Pair × Usage → Bool) (es : List Attachment) → IsInOrder es → map_of (filter (λ a. p (entry_of a)) es) ≡ passing p (map_of es)
passing_map p es order = ap finite.from_sorted (sym (ap (filter p) (entries_of es order) ∙ filtered p es))

pub retained_map : (p : Pair → Bool) (es : List Attachment) → IsInOrder es → map_of (filter (λ a. p (pair_of a)) es) ≡ finite.retain_keys (map_of es) p
retained_map p es order = passing_map (λ e. p e.0) es order ∙ sym (retained_is_passing p (map_of es))

as_listed : (es : List Attachment) → map attachment_of (map entry_of es) ≡ es
as_listed [] = refl
as_listed (x ∷ xs) = ap (λ r. x ∷ r) (as_listed xs)

length_entries : (es : List Attachment) → length (map entry_of es) ≡ length es
length_entries [] = refl
length_entries (x ∷ xs) = ap suc (length_entries xs)

pub length_part : (p : Pair → Bool) (es : List Attachment) → IsInOrder es → length (filter (λ a. p (pair_of a)) es) ≡ finite.len (finite.retain_keys (map_of es) p)
length_part p es order =
    sym (finite.len-entries (finite.retain_keys (map_of es) p)
    ∙ ap length (entries_retained p (map_of es) ∙ ap (filter (λ e. p e.0)) (entries_of es order) ∙ filtered (λ e. p e.0) es)
    ∙ length_entries (filter (λ a. p (pair_of a)) es))

pub map_of_nothing : map_of [] ≡ finite.empty
map_of_nothing = finite.empty_of_len (map_of []) (finite.len-entries (map_of []) ∙ ap length (entries_of [] refl))

-- of a part no more are left
pub fewer : (p t : Pair × Usage → Bool) (es : List (Pair × Usage)) → length (filter p (filter t es)) ≤ length (filter p es)
fewer p t [] = omega arith
fewer p t (e ∷ es) =
    let rest = fewer p t es in
    elim (t e) as (λ b. length (filter p (cond b (e ∷ filter t es) (filter t es))) ≤ length (cond (p e) (e ∷ filter p es) (filter p es))) [
      | true ↦ elim (p e) as
          (λ b. length (cond b (e ∷ filter p (filter t es)) (filter p (filter t es))) ≤ length (cond b (e ∷ filter p es) (filter p es)))
          [ true ↦ omega (arith, rest) | false ↦ rest ]
      | false ↦ elim (p e) as (λ b. length (filter p (filter t es)) ≤ length (cond b (e ∷ filter p es) (filter p es))) [ true ↦ omega (arith, rest) | false ↦ rest ]
    ]

other_way : {A : Type 0} (b : Bool) (x y : A) → cond (not b) x y ≡ cond b y x
other_way true x y = refl
other_way false x y = refl

pub removed_is_retained : (k : Pair) (m : Attached) → finite.retain_keys m (λ p. not ((p.0 == k.0) && (p.1 == k.1))) ≡ finite.remove m k
removed_is_retained k m =
    finite.same_map pairs_total pairs_exact _ _ (λ q.
    finite.get-retain_keys m (λ p. not ((p.0 == k.0) && (p.1 == k.1))) q (alike (λ p. not ((p.0 == k.0) && (p.1 == k.1))) q)
    ∙ other_way ((q.0 == k.0) && (q.1 == k.1)) _ _
    ∙ ap (λ b. cond b None (finite.get m q)) (sym (pairs_tied q k))
    ∙ sym (finite.get-remove pairs_total m k q))

pub removed_map : (k : Pair) (es : List Attachment) → IsInOrder es → map_of (filter (λ a. not ((a.itsi == k.0) && (a.gtsi == k.1))) es) ≡ finite.remove (map_of es) k
removed_map k es order = retained_map (λ p. not ((p.0 == k.0) && (p.1 == k.1))) es order ∙ removed_is_retained k (map_of es)

-- the whole list is what its map lists, and as long
pub listed_map : (es : List Attachment) → IsInOrder es → listed (map_of es) ≡ es
listed_map es order = ap (map attachment_of) (entries_of es order) ∙ as_listed es

each_once : (es : List (Pair × Usage)) → length (map attachment_of es) ≡ length es
each_once [] = refl
each_once (e ∷ es) = ap suc (each_once es)

pub length_listed : (m : Attached) → length (listed m) ≡ finite.len m
length_listed m = each_once (finite.entries m) ∙ sym (finite.len-entries m)
