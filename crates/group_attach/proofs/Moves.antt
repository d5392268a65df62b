-- What a list of attachments, one after another, makes of others.
use Rattle.std.proofs.Common.{◌≡◌, Bool, true, false, cond, List, [], ◌∷◌, Option, Some, None, map, refl, sym, ap, ◌∙◌, subst}
use Rattle.std.specs.Prelude.{T, ◌&&◌, not, IsSome}
use Rattle.std.specs.Option.{is_some, option_or}
use Rattle.std.specs.Ordering.{eq_by_cmp}
use Rattle.std.specs.FinMap as finite
use Rattle.std.specs.FinMap.{find}
use Rattle.std.specs.FinMap.Entries.{is_sorted}
use Rattle.base.proofs.Bools.{cond_same}
use Rattle.mm_pdus.specs.declared.update.LocationUpdateType.{LocationUpdateType}
use Rattle.group_attach.specs.declared.attachment.Attachment.{Attachment}
use Rattle.group_attach.specs.Attached.{Pair, Usage, Attached, pair_cmp, attachment_of, entry_of, listed, pair_of, attached, all_attached}
use Rattle.group_attach.specs.Applied.{is_dropped}
use Rattle.group_attach.specs.Inside.ListedMap.{map_of}
use Rattle.group_attach.specs.Inside.Filed.{has_pair, left_unless, all_left, left_if_ended, all_ended, set_back}
use Rattle.group_attach.proofs.Pairs.{pairs_total, pairs_exact}
use Rattle.group_attach.proofs.Counting.{same_pair}
use Rattle.group_attach.proofs.Filtered.{left, right}
use Rattle.group_attach.proofs.Endings.{tie, apart}

-- an attachment that was added is there
pub is_there : (m n : Attached) (a : Attachment) → n ≡ attached m a → IsSome (finite.get n (pair_of a))
is_there m n a is =
    ap is_some (ap (λ x. finite.get x (pair_of a)) is ∙ finite.get-insert pairs_total m (pair_of a) (a.class, a.lifetime) (pair_of a)
    ∙ ap (λ b. cond b (Some (a.class, a.lifetime)) (finite.get m (pair_of a))) (same_pair (pair_of a)))

again : (b : Bool) (x y z w : Option Usage) → w ≡ x → (b ≡ true → z ≡ x) → cond b w (cond b y z) ≡ z
again true x y z w is same = is ∙ sym (same refl)
again false x y z w is same = refl

set_again : (m : Attached) (a : Attachment) (o : Option Usage) → o ≡ finite.get m (pair_of a) → set_back (attached m a) (pair_of a) o ≡ m
set_again m a None was =
    finite.same_map pairs_total pairs_exact _ _ (λ q.
    finite.get-remove pairs_total (attached m a) (pair_of a) q
    ∙ ap (cond (eq_by_cmp pair_cmp q (pair_of a)) None) (finite.get-insert pairs_total m (pair_of a) (a.class, a.lifetime) q)
    ∙ again (eq_by_cmp pair_cmp q (pair_of a)) None _ (finite.get m q) None refl (λ same. ap (finite.get m) (tie q (pair_of a) same) ∙ sym was))
set_again m a (Some u) was =
    finite.same_map pairs_total pairs_exact _ _ (λ q.
    finite.get-insert pairs_total (attached m a) (pair_of a) u q
    ∙ ap (cond (eq_by_cmp pair_cmp q (pair_of a)) (Some u)) (finite.get-insert pairs_total m (pair_of a) (a.class, a.lifetime) q)
    ∙ again (eq_by_cmp pair_cmp q (pair_of a)) (Some u) _ (finite.get m q) (Some u) refl (λ same. ap (finite.get m) (tie q (pair_of a) same) ∙ sym was))

-- what is set back is as it was
pub taken_back : (m n x : Attached) (a : Attachment) → n ≡ attached m a → x ≡ set_back n (pair_of a) (finite.get m (pair_of a)) → x ≡ m
taken_back m n x a is back = back ∙ ap (λ y. set_back y (pair_of a) (finite.get m (pair_of a))) is ∙ set_again m a (finite.get m (pair_of a)) refl

each_back : (es : List (Pair × Usage)) → map entry_of (map attachment_of es) ≡ es
each_back [] = refl
each_back (e ∷ es) = ap (λ r. e ∷ r) (each_back es)

-- the map of what a map lists
pub map_listed : (m : Attached) → map_of (listed m) ≡ m
map_listed m =
    finite.same_entries_map _ _ (ap (λ es. finite.entries (finite.from_sorted {R = pair_cmp} es)) (each_back (finite.entries m))
    ∙ finite.entries-from_sorted pair_cmp (finite.entries m) (finite.entries_sorted m))

-- all of a list added: those of the list, and the others as before
added_from : (q : Pair) (es : List (Pair × Usage)) (m : Attached) → T (is_sorted pair_cmp es) → finite.get (all_attached m (map attachment_of es)) q ≡ option_or (find pair_cmp q es) (finite.get m q)
added_from q [] m order = refl
added_from q (e ∷ es) m order =
    added_from q es (finite.insert m e.0 e.1) (right _ _ order)
    ∙ ap (option_or (find pair_cmp q es)) (finite.get-insert pairs_total m e.0 e.1 q)
    ∙ (elim (eq_by_cmp pair_cmp q e.0) as
    (λ b. eq_by_cmp pair_cmp q e.0 ≡ b → option_or (find pair_cmp q es) (cond b (Some e.1) (finite.get m q)) ≡ option_or
    (cond b (Some e.1) (find pair_cmp q es)) (finite.get m q)) [
      | true ↦ λ same. ap (λ o. option_or o (Some e.1)) (subst (λ k. find pair_cmp k es ≡ None) (sym (tie q e.0 same)) (apart e.0 es (left _ _ order)))
      | false ↦ λ other. refl
    ]) refl

pub get_added : (m list : Attached) (q : Pair) → finite.get (all_attached m (listed list)) q ≡ option_or (finite.get list q) (finite.get m q)
get_added m list q = added_from q (finite.entries list) m (finite.entries_sorted list) ∙ ap (λ o. option_or o (finite.get m q)) (sym (finite.get-entries list q))

and_false : {A : Type 0} (a : Bool) (x y : A) → cond (a && false) x y ≡ y
and_false true x y = refl
and_false false x y = refl

step_left : (b : Bool) (m : Attached) (e : Pair × Usage) (q : Pair) → eq_by_cmp pair_cmp q e.0 ≡ false → finite.get (cond b m (finite.remove m e.0)) q ≡ finite.get m q
step_left true m e q other = refl
step_left false m e q other = finite.get-remove pairs_total m e.0 q ∙ ap (λ b. cond b None (finite.get m q)) other

step_gone : (a b : Bool) (m : Attached) (e : Pair × Usage) (q : Pair) → eq_by_cmp pair_cmp q e.0 ≡ true →
    cond (a && not b) None (finite.get (cond b m (finite.remove m e.0)) q) ≡ cond (not b) None (finite.get m q)
step_gone a true m e q same = and_false a None (finite.get m q)
step_gone a false m e q same = ap (cond (a && true) None) (finite.get-remove pairs_total m e.0 q ∙ ap (λ b. cond b None (finite.get m q)) same) ∙ cond_same (a && true) None

-- those of an old list taken away that a new one has not
gone_from : (q : Pair) (list : List Attachment) (es : List (Pair × Usage)) (m : Attached)
    → finite.get (all_left m (map attachment_of es) list) q ≡ cond (is_some (find pair_cmp q es) && not (is_some (finite.get (map_of list) q))) None (finite.get m q)
gone_from q list [] m = refl
gone_from q list (e ∷ es) m =
    gone_from q list es (left_unless list m (attachment_of e))
    ∙ (elim (eq_by_cmp pair_cmp q e.0) as
    (λ b. eq_by_cmp pair_cmp q e.0 ≡ b → cond (is_some (find pair_cmp q es) && not (is_some (finite.get (map_of list) q))) None
    (finite.get (left_unless list m (attachment_of e)) q) ≡ cond
    (is_some (cond b (Some e.1) (find pair_cmp q es)) && not (is_some (finite.get (map_of list) q))) None (finite.get m q)) [
      | true ↦ λ same.
          ap (λ k. cond (is_some (find pair_cmp q es) && not (is_some (finite.get (map_of list) q))) None
          (finite.get (cond (is_some (finite.get (map_of list) k)) m (finite.remove m e.0)) q)) (sym (tie q e.0 same))
          ∙ step_gone (is_some (find pair_cmp q es)) (is_some (finite.get (map_of list) q)) m e q same
      | false ↦ λ other. ap (cond (is_some (find pair_cmp q es) && not (is_some (finite.get (map_of list) q))) None) (step_left (has_pair list (attachment_of e)) m e q other)
    ]) refl

pub get_gone : (m old list : Attached) (q : Pair) → finite.get (all_left m (listed old) (listed list)) q ≡ cond (is_some (finite.get old q) && not (is_some (finite.get list q))) None (finite.get m q)
get_gone m old list q =
    gone_from q (listed list) (finite.entries old) m
    ∙ (λ i. cond (is_some (sym (finite.get-entries old q) i) && not (is_some (finite.get (map_listed list i) q))) None (finite.get m q))

unfoldable pub dropped_usage : LocationUpdateType → Option Usage → Option Usage → Option Usage
dropped_usage update None o = o
dropped_usage update (Some u) o = cond (is_dropped update u.1) None o

step_ended : (b : Bool) (m : Attached) (e : Pair × Usage) (q : Pair) → eq_by_cmp pair_cmp q e.0 ≡ false → finite.get (cond b (finite.remove m e.0) m) q ≡ finite.get m q
step_ended true m e q other = finite.get-remove pairs_total m e.0 q ∙ ap (λ b. cond b None (finite.get m q)) other
step_ended false m e q other = refl

step_dropped : (b : Bool) (m : Attached) (e : Pair × Usage) (q : Pair) → eq_by_cmp pair_cmp q e.0 ≡ true → finite.get (cond b (finite.remove m e.0) m) q ≡ cond b None (finite.get m q)
step_dropped true m e q same = finite.get-remove pairs_total m e.0 q ∙ ap (λ b. cond b None (finite.get m q)) same
step_dropped false m e q same = refl

-- those of a list that an update ends taken away
dropped_from : (q : Pair) (update : LocationUpdateType) (es : List (Pair × Usage)) (m : Attached) → T (is_sorted pair_cmp es)
    → finite.get (all_ended update m (map attachment_of es)) q ≡ dropped_usage update (find pair_cmp q es) (finite.get m q)
unfolding dropped_usage
dropped_from q update [] m order = refl
dropped_from q update (e ∷ es) m order =
    dropped_from q update es (left_if_ended update m (attachment_of e)) (right _ _ order)
    ∙ (elim (eq_by_cmp pair_cmp q e.0) as
    (λ b. eq_by_cmp pair_cmp q e.0 ≡ b → dropped_usage update (find pair_cmp q es) (finite.get (left_if_ended update m (attachment_of e)) q) ≡
    dropped_usage update (cond b (Some e.1) (find pair_cmp q es)) (finite.get m q)) [
      | true ↦ λ same.
          ap (λ o. dropped_usage update o (finite.get (left_if_ended update m (attachment_of e)) q)) (subst (λ k. find pair_cmp k es ≡ None) (sym (tie q e.0 same)) (apart e.0 es (left _ _ order)))
          ∙ step_dropped (is_dropped update e.1.1) m e q same
      | false ↦ λ other. ap (dropped_usage update (find pair_cmp q es)) (step_ended (is_dropped update e.1.1) m e q other)
    ]) refl

pub get_dropped : (update : LocationUpdateType) (m list : Attached) (q : Pair) → finite.get (all_ended update m (listed list)) q ≡ dropped_usage update (finite.get list q) (finite.get m q)
get_dropped update m list q = dropped_from q update (finite.entries list) m (finite.entries_sorted list) ∙ ap (λ o. dropped_usage update o (finite.get m q)) (sym (finite.get-entries list q))
