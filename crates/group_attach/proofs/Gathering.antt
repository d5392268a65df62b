-- The attachments of all lists, and what one list makes of them.
use Rattle.std.proofs.Common.{◌≡◌, ℕ, zero, suc, ◌<◌, ◌^◌, Bool, true, false, cond, List, [], ◌∷◌, ◌++◌, length, Option, Some, None, refl, sym, ap, ◌∙◌, subst, arith}
use Rattle.std.specs.Prelude.{T, ◌==◌, IsSome}
use Rattle.std.specs.Option.{is_some, option_or}
use Rattle.std.specs.Ordering.{eq_by_cmp}
use Rattle.std.specs.FinMap as finite
use Rattle.std.specs.FinMap.{find}
use Rattle.std.specs.FinMap.Entries.{below_all, is_sorted}
use mathlib.Core.Bool.{false≢true}
use Rattle.base.proofs.Bools.{less_apart}
use Rattle.base.proofs.Numbers.{same_test}
use borrow.Author.Tests.{eqb-true}
use Rattle.identity.specs.Number.{number}
use Rattle.identity.specs.Path.{Path, path_cmp, id_path}
use Rattle.identity.specs.Inside.PathLaws.{paths_total, tie_exact, tied, number-id_path}
use Rattle.group_attach.specs.declared.attachment.Attachment.{Attachment}
use Rattle.group_attach.specs.declared.ending.Ending.{Ending}
use Rattle.group_attach.specs.Attached.{Attached, Pair, Usage, pair_cmp, no_groups, pair_of, attached}
use Rattle.group_attach.specs.Inside.Filed.{Filed, under, held, placed, of_entries, gathered, AllHave, IsFiled, part_of, ended}
use Rattle.group_attach.proofs.Pairs.{pairs_total, pairs_exact, alike}
use Rattle.group_attach.proofs.Counting.{same_pair}
use Rattle.group_attach.proofs.Filtered.{left, right}
use Rattle.group_attach.proofs.Endings.{tie, passed, ended_usage, get_ended, ended_none}
use Rattle.group_attach.proofs.FiledFacts.{absent_not}

no_rest : (o : Option Usage) → option_or o None ≡ o
no_rest None = refl
no_rest (Some u) = refl

find_both : (q : Pair) (xs ys : List (Pair × Usage)) → find pair_cmp q (xs ++ ys) ≡ option_or (find pair_cmp q xs) (find pair_cmp q ys)
find_both q [] ys = refl
find_both q (x ∷ xs) ys =
    elim (eq_by_cmp pair_cmp q x.0) as (λ b. cond b (Some x.1) (find pair_cmp q (xs ++ ys)) ≡ option_or (cond b (Some x.1) (find pair_cmp q xs)) (find pair_cmp q ys)) [
      | true ↦ refl
      | false ↦ find_both q xs ys
    ]

-- a path before all others is none of them
path_apart : (p : Path) (es : List (Path × Attached)) → T (below_all path_cmp p es) → find path_cmp p es ≡ None
path_apart p [] below = refl
path_apart p (e ∷ es) below = rw (less_apart (path_cmp p e.0) (left _ _ below)) (path_apart p es (right _ _ below))

by_number : (b : Bool) (x y : Option Usage) → (b ≡ true → x ≡ y) → (b ≡ false → x ≡ None) → x ≡ cond b y None
by_number true x y same other = same refl
by_number false x y same other = other refl

either : {x y n : Option Usage} (b : Bool) → (b ≡ true → x ≡ n) → (b ≡ false → y ≡ n) → cond b x y ≡ n
either true same other = same refl
either false same other = other refl

one_of : (b : Bool) (list l : Attached) (q : Pair) → (b ≡ true → finite.get list q ≡ finite.get l q) → finite.get (cond b list l) q ≡ finite.get l q
one_of true list l q same = same refl
one_of false list l q same = refl

not_removed : (b : Bool) (l : Attached) (o : Option Attached) → cond b None o ≡ Some l → o ≡ Some l
not_removed true l o e = absurd (absent_not e refl)
not_removed false l o e = e

one_some : (x y : Attached) → Some x ≡ Some y → x ≡ y
one_some x y e = ap held e

positive : (n : ℕ) → (n == 0) ≡ false → 0 < n
positive zero e = absurd (false≢true (sym e))
positive (suc n) e = omega arith

not_zero : (n : ℕ) → 0 < n → (n == 0) ≡ false
not_zero n some = (elim (n == 0) as (λ b. (n == 0) ≡ b → b ≡ false) [ true ↦ λ e. absurd (omega (arith, eqb-true n 0 e, some)) | false ↦ λ e. refl ]) refl

some_in : (q : Pair) (es : List (Pair × Usage)) → IsSome (find pair_cmp q es) → 0 < length es
some_in q [] there = absurd (false≢true there)
some_in q (e ∷ es) there = omega arith

-- a list that has a pair is not empty
pub has_some : (m : Attached) (q : Pair) → IsSome (finite.get m q) → 0 < finite.len m
has_some m q there = subst (λ n. 0 < n) (sym (finite.len-entries m)) (some_in q (finite.entries m) (subst IsSome (finite.get-entries m q) there))

attached_some : (m : Attached) (a : Attachment) → 0 < finite.len (attached m a)
attached_some m a = has_some (attached m a) (pair_of a)
    (ap is_some (finite.get-insert pairs_total m (pair_of a) (a.class, a.lifetime) (pair_of a) ∙
    ap (λ b. cond b (Some (a.class, a.lifetime)) (finite.get m (pair_of a))) (same_pair (pair_of a))))

placed_insert : (f : Filed) (p : Path) (list : Attached) → 0 < finite.len list → finite.insert f p list ≡ placed f p list
placed_insert f p list some = ap (λ b. cond b (finite.remove f p) (finite.insert f p list)) (sym (not_zero (finite.len list) some))

pub placed_nothing : (f : Filed) (p : Path) → finite.remove f p ≡ placed f p no_groups
placed_nothing f p = ap (λ b. cond b (finite.remove f p) (finite.insert f p no_groups)) (sym (ap (λ n. n == 0) (finite.len-empty pair_cmp Usage)))

some_ended : (itsi : ℕ) (e : Ending) (q : Pair) (o : Option Usage) → IsSome (ended_usage itsi e q o) → IsSome o
some_ended itsi e q None there = absurd (absent_not (sym (ended_none itsi e q)) there)
some_ended itsi e q (Some u) there = refl

held_if : (b : Bool) (x y : Option Attached) → held (cond b x y) ≡ cond b (held x) (held y)
held_if true x y = refl
held_if false x y = refl

-- what is under a path once a list was placed
under_placed : (f : Filed) (p : Path) (list : Attached) (q : Path) → under (placed f p list) q ≡ cond (eq_by_cmp path_cmp q p) list (under f q)
under_placed f p list q =
    (elim (finite.len list == 0) as (λ b. (finite.len list == 0) ≡ b → under (cond b (finite.remove f p) (finite.insert f p list)) q ≡ cond (eq_by_cmp path_cmp q p) list (under f q)) [
      | true ↦ λ e.
          let empty : list ≡ no_groups = finite.empty_of_len list (eqb-true (finite.len list) 0 e) in
          ap held (finite.get-remove paths_total f p q) ∙ held_if (eq_by_cmp path_cmp q p) None (finite.get f q) ∙ ap (λ l. cond (eq_by_cmp path_cmp q p) l (under f q)) (sym empty)
      | false ↦ λ e. ap held (finite.get-insert paths_total f p list q) ∙ held_if (eq_by_cmp path_cmp q p) (Some list) (finite.get f q)
    ]) refl

module _ (key : Pair → ℕ) where
  in_entries : (q : Pair) (es : List (Path × Attached)) → T (is_sorted path_cmp es) → find pair_cmp q (of_entries key es) ≡ finite.get (held (find path_cmp (id_path (key q)) es)) q
  in_entries q [] order = sym (finite.get-empty pair_cmp q)
  in_entries q (e ∷ es) order =
      let rest = in_entries q es (right _ _ order) in
      let p = id_path (key q) in
      find_both q (finite.entries (finite.retain_keys e.1 (λ pair. eq_by_cmp path_cmp (id_path (key pair)) e.0))) (of_entries key es)
      ∙ ap (λ o. option_or o (find pair_cmp q (of_entries key es)))
      (sym (finite.get-entries (finite.retain_keys e.1 (λ pair. eq_by_cmp path_cmp (id_path (key pair)) e.0)) q)
      ∙ finite.get-retain_keys e.1 (λ pair. eq_by_cmp path_cmp (id_path (key pair)) e.0) q (alike (λ pair. eq_by_cmp path_cmp (id_path (key pair)) e.0) q))
      ∙ ap (option_or (cond (eq_by_cmp path_cmp p e.0) (finite.get e.1 q) None)) rest
      ∙ (elim (eq_by_cmp path_cmp p e.0) as
      (λ b. eq_by_cmp path_cmp p e.0 ≡ b → option_or (cond b (finite.get e.1 q) None) (finite.get (held (find path_cmp p es)) q) ≡ finite.get
      (held (cond b (Some e.1) (find path_cmp p es))) q) [
        | true ↦ λ same.
            let none : find path_cmp p es ≡ None = subst (λ k. find path_cmp k es ≡ None) (sym (tie_exact p e.0 same)) (path_apart e.0 es (left _ _ order)) in
            ap (option_or (finite.get e.1 q)) (ap (λ o. finite.get (held o) q) none ∙ finite.get-empty pair_cmp q) ∙ no_rest (finite.get e.1 q)
        | false ↦ λ other. refl
      ]) refl

  -- what is gathered has of a pair what the list under its path has
  pub get_gathered : (f : Filed) (q : Pair) → finite.get (gathered key f) q ≡ finite.get (under f (id_path (key q))) q
  unfolding gathered
  get_gathered f q =
      finite.get-from_entries pairs_total (of_entries key (finite.entries f)) q
      ∙ in_entries q (finite.entries f) (finite.entries_sorted f)
      ∙ ap (λ o. finite.get (held o) q) (sym (finite.get-entries f (id_path (key q))))

  -- a list has no pairs of another number
  pub own : (f : Filed) → IsFiled key f → (p : Path) → AllHave key (number p) (under f p)
  unfolding IsFiled
  own f filed p q there =
      (elim (finite.get f p) as (λ o. finite.get f p ≡ o → IsSome (finite.get (held o) q) → key q ≡ number p) [
        | None ↦ λ e some. absurd (absent_not (sym (finite.get-empty pair_cmp q)) some)
        | Some list ↦ λ e some. (filed p list e).1 q some
      ]) refl there

  pub own_key : (f : Filed) (k : ℕ) → k < 2 ^ 48 → IsFiled key f → AllHave key k (under f (id_path k))
  own_key f k fits filed q there = own f filed (id_path k) q there ∙ number-id_path k fits

  -- where no pair may be, there is none
  pub stranger : (list : Attached) (k : ℕ) (q : Pair) → AllHave key k list → (key q == k) ≡ false → finite.get list q ≡ None
  stranger list k q all other =
      (elim (finite.get list q) as (λ o. finite.get list q ≡ o → o ≡ None) [
        | None ↦ λ e. refl
        | Some u ↦ λ e. absurd (false≢true (sym other ∙ ap (λ n. n == k) (all q (ap is_some e)) ∙ same_test k))
      ]) refl

  -- the list under a number's path is the part with that number
  pub part_under : (f : Filed) (k : ℕ) → k < 2 ^ 48 → IsFiled key f → under f (id_path k) ≡ part_of key (gathered key f) k
  part_under f k fits filed =
      finite.same_map pairs_total pairs_exact _ _ (λ q.
      by_number (key q == k) (finite.get (under f (id_path k)) q) (finite.get (gathered key f) q)
      (λ same. ap (λ n. finite.get (under f (id_path n)) q) (sym (eqb-true (key q) k same)) ∙ sym (get_gathered f q))
      (λ other. stranger (under f (id_path k)) k q (own_key f k fits filed) other)
      ∙ sym (finite.get-retain_keys (gathered key f) (λ pair. key pair == k) q (alike (λ pair. key pair == k) q)))

  -- with a list in its place, its pairs are the list's and all others are as they were
  pub get_placed : (f : Filed) (k : ℕ) (list : Attached) → k < 2 ^ 48 → IsFiled key f → AllHave key k list → (q : Pair) →
      finite.get (gathered key (placed f (id_path k) list)) q ≡ cond (key q == k) (finite.get list q) (finite.get (gathered key f) q)
  get_placed f k list fits filed all q =
      get_gathered (placed f (id_path k) list) q
      ∙ ap (λ l. finite.get l q) (under_placed f (id_path k) list (id_path (key q)))
      ∙ (elim (key q == k) as
      (λ b. (key q == k) ≡ b → finite.get (cond (eq_by_cmp path_cmp (id_path (key q)) (id_path k)) list (under f (id_path (key q)))) q ≡ cond b
      (finite.get list q) (finite.get (gathered key f) q)) [
        | true ↦ λ same.
            ap (λ b. finite.get (cond b list (under f (id_path (key q)))) q) (ap (λ n. eq_by_cmp path_cmp (id_path n) (id_path k)) (eqb-true (key q) k same) ∙ tied (id_path k))
        | false ↦ λ other.
            one_of (eq_by_cmp path_cmp (id_path (key q)) (id_path k)) list (under f (id_path (key q))) q
            (λ tie. stranger list k q all other
            ∙ sym (ap (λ p. finite.get (under f p) q) (tie_exact (id_path (key q)) (id_path k) tie) ∙ stranger (under f (id_path k)) k q (own_key f k fits filed) other))
            ∙ sym (get_gathered f q)
      ]) refl

  pub filed_placed : (f : Filed) (p : Path) (list : Attached) → IsFiled key f → AllHave key (number p) list → IsFiled key (placed f p list)
  unfolding IsFiled
  filed_placed f p list filed all q l there =
      (elim (finite.len list == 0) as (λ b. (finite.len list == 0) ≡ b → finite.get (cond b (finite.remove f p) (finite.insert f p list)) q ≡ Some l → (0 < finite.len l) × AllHave key (number q) l) [
        | true ↦ λ empty is. filed q l (not_removed (eq_by_cmp path_cmp q p) l (finite.get f q) (sym (finite.get-remove paths_total f p q) ∙ is))
        | false ↦ λ some is.
            (elim (eq_by_cmp path_cmp q p) as (λ b. eq_by_cmp path_cmp q p ≡ b → cond b (Some list) (finite.get f q) ≡ Some l → (0 < finite.len l) × AllHave key (number q) l) [
              | true ↦ λ tie e.
                  let same : list ≡ l = one_some list l e in
                  subst (λ m. (0 < finite.len m) × AllHave key (number q) m) same
                  (positive (finite.len list) some, subst (λ r. AllHave key (number r) list) (sym (tie_exact q p tie)) all)
              | false ↦ λ apart e. filed q l e
            ]) refl (sym (finite.get-insert paths_total f p list q) ∙ is)
      ]) refl there

  -- what something makes of a list, and leaves of other numbers alone, it makes of all
  pub gathered_as : (f : Filed) (k : ℕ) (list n : Attached) → k < 2 ^ 48 → IsFiled key f → AllHave key k list
      → ((q : Pair) → (key q == k) ≡ true → finite.get list q ≡ finite.get n q)
      → ((q : Pair) → (key q == k) ≡ false → finite.get (gathered key f) q ≡ finite.get n q)
      → gathered key (placed f (id_path k) list) ≡ n
  gathered_as f k list n fits filed all own_side other_side =
      finite.same_map pairs_total pairs_exact _ _ (λ q.
      get_placed f k list fits filed all q ∙ either (key q == k) (own_side q) (other_side q))

  -- of its own number, the list has what is gathered
  own_side : (f : Filed) (k : ℕ) (q : Pair) → (key q == k) ≡ true → finite.get (under f (id_path k)) q ≡ finite.get (gathered key f) q
  own_side f k q same = ap (λ n. finite.get (under f (id_path n)) q) (sym (eqb-true (key q) k same)) ∙ sym (get_gathered f q)

  pub ended_own : (f : Filed) (k : ℕ) (itsi : ℕ) (e : Ending) → k < 2 ^ 48 → IsFiled key f → AllHave key k (ended (under f (id_path k)) itsi e)
  ended_own f k itsi e fits filed q there =
      own_key f k fits filed q (some_ended itsi e q (finite.get (under f (id_path k)) q) (subst IsSome (get_ended (under f (id_path k)) itsi e q) there))

  pub gathered_ended : (f : Filed) (k : ℕ) (itsi : ℕ) (e : Ending) → k < 2 ^ 48 → IsFiled key f
      → ((q : Pair) (o : Option Usage) → (key q == k) ≡ false → ended_usage itsi e q o ≡ o)
      → gathered key (placed f (id_path k) (ended (under f (id_path k)) itsi e)) ≡ ended (gathered key f) itsi e
  gathered_ended f k itsi e fits filed spares =
      gathered_as f k (ended (under f (id_path k)) itsi e) (ended (gathered key f) itsi e) fits filed (ended_own f k itsi e fits filed)
      (λ q same. get_ended (under f (id_path k)) itsi e q ∙ ap (ended_usage itsi e q) (own_side f k q same) ∙ sym (get_ended (gathered key f) itsi e q))
      (λ q other. sym (get_ended (gathered key f) itsi e q ∙ spares q (finite.get (gathered key f) q) other))

  pub attached_own : (f : Filed) (a : Attachment) → key (pair_of a) < 2 ^ 48 → IsFiled key f → AllHave key (key (pair_of a)) (attached (under f (id_path (key (pair_of a)))) a)
  attached_own f a fits filed q there =
      (elim (eq_by_cmp pair_cmp q (pair_of a)) as
      (λ b. eq_by_cmp pair_cmp q (pair_of a) ≡ b →
      IsSome (cond b (Some (a.class, a.lifetime)) (finite.get (under f (id_path (key (pair_of a)))) q)) → key q ≡ key (pair_of a)) [
        | true ↦ λ same some. ap key (tie q (pair_of a) same)
        | false ↦ λ other some. own_key f (key (pair_of a)) fits filed q some
      ]) refl (subst IsSome (finite.get-insert pairs_total (under f (id_path (key (pair_of a)))) (pair_of a) (a.class, a.lifetime) q) there)

  pub gathered_attached : (f : Filed) (a : Attachment) → key (pair_of a) < 2 ^ 48 → IsFiled key f
      → gathered key (finite.insert f (id_path (key (pair_of a))) (attached (under f (id_path (key (pair_of a)))) a)) ≡ attached (gathered key f) a
  gathered_attached f a fits filed =
      let k = key (pair_of a) in
      ap (gathered key) (placed_insert f (id_path k) (attached (under f (id_path k)) a) (attached_some (under f (id_path k)) a))
      ∙ gathered_as f k (attached (under f (id_path k)) a) (attached (gathered key f) a) fits filed (attached_own f a fits filed)
      (λ q same. finite.get-insert pairs_total (under f (id_path k)) (pair_of a) (a.class, a.lifetime) q
      ∙ ap (cond (eq_by_cmp pair_cmp q (pair_of a)) (Some (a.class, a.lifetime))) (own_side f k q same)
      ∙ sym (finite.get-insert pairs_total (gathered key f) (pair_of a) (a.class, a.lifetime) q))
      (λ q other. sym (finite.get-insert pairs_total (gathered key f) (pair_of a) (a.class, a.lifetime) q
      ∙ passed (eq_by_cmp pair_cmp q (pair_of a)) _ _ (λ same. false≢true (sym other ∙ ap (λ r. key r == k) (tie q (pair_of a) same) ∙ same_test k))))

  pub filed_attached : (f : Filed) (a : Attachment) → key (pair_of a) < 2 ^ 48 → IsFiled key f →
      IsFiled key (finite.insert f (id_path (key (pair_of a))) (attached (under f (id_path (key (pair_of a)))) a))
  filed_attached f a fits filed =
      let k = key (pair_of a) in
      subst (IsFiled key) (sym (placed_insert f (id_path k) (attached (under f (id_path k)) a) (attached_some (under f (id_path k)) a)))
      (filed_placed f (id_path k) (attached (under f (id_path k)) a) filed
      (λ q there. attached_own f a fits filed q there ∙ sym (number-id_path k fits)))

  pub none_gathered : gathered key finite.empty ≡ no_groups
  none_gathered =
      finite.same_map pairs_total pairs_exact _ _ (λ q.
      get_gathered finite.empty q ∙ ap (λ o. finite.get (held o) q) (finite.get-empty path_cmp (id_path (key q))))

  pub none_filed : IsFiled key finite.empty
  unfolding IsFiled
  none_filed p list there = absurd (absent_not (sym (finite.get-empty path_cmp p)) (ap is_some there))
