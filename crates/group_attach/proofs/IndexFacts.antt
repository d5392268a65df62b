-- What an index makes of its attachments, stated of plain values.
use Rattle.std.proofs.Common.{◌≡◌, ℕ, ◌<◌, ◌^◌, false, cond, List, [], length, Option, Some, None, Result, Ok, Err, take, get_or, ◌+◌, refl, sym, ap, ◌∙◌, subst, arith}
use Rattle.std.specs.Prelude.{◌==◌, IsSome, IfOk, OnOk, OnErr, if◌then◌else◌}
use Rattle.std.specs.Option.{option_map}
use Rattle.std.proofs.lemmas.List.Sums.{fold_more}
use Rattle.std.specs.FinMap as finite
use Rattle.identity.specs.Number.{number}
use Rattle.identity.specs.Path.{Path, id_path}
use Rattle.identity.specs.Inside.PathLaws.{number-id_path}
use Rattle.group_attach.specs.declared.attachment.Attachment.{Attachment}
use Rattle.mm_pdus.specs.declared.update.LocationUpdateType.{LocationUpdateType}
use Rattle.group_attach.specs.declared.ending.Ending.{Ending}
use Rattle.group_attach.specs.Attached.{Attached, Pair, Usage, pair_cmp, no_groups, attachment_of, attachment_at, listed, pair_of, attached}
use Rattle.group_attach.specs.Inside.Filed.{Filed, under, held, placed, gathered, AllHave, IsFiled, part_of, ended, left_unless, all_left, left_if_ended, all_ended}
use Rattle.group_attach.proofs.Filtered.{listed_map, map_of_nothing}
use Rattle.group_attach.proofs.Endings.{ended_usage}
use Rattle.group_attach.proofs.FiledFacts.{absent_not}
use Rattle.group_attach.proofs.Gathering.{get_gathered, part_under, get_placed, filed_placed, ended_own, gathered_ended, gathered_attached, filed_attached, placed_nothing}

pub nothing_listed : [] ≡ listed no_groups
nothing_listed = sym (listed_map [] refl) ∙ ap listed map_of_nothing

-- one attachment further
pub left_more : (list : List Attachment) (m now new : Attached) (old : List Attachment) (i : ℕ) (a : Attachment)
    → i < length old → a ≡ get_or old i a → now ≡ all_left m (take i old) list → new ≡ left_unless list now a → new ≡ all_left m (take (i + 1) old) list
left_more list m now new old i a lt read so_far is =
    is ∙ (λ j. left_unless list (so_far j) (read j)) ∙ sym (fold_more (left_unless list) m old i a lt)

pub ended_more : (update : LocationUpdateType) (m now new : Attached) (list : List Attachment) (i : ℕ) (a : Attachment)
    → i < length list → a ≡ get_or list i a → now ≡ all_ended update m (take i list) → new ≡ left_if_ended update now a → new ≡ all_ended update m (take (i + 1) list)
ended_more update m now new list i a lt read so_far is =
    is ∙ (λ j. left_if_ended update (so_far j) (read j)) ∙ sym (fold_more (left_if_ended update) m list i a lt)

module _ (key : Pair → ℕ) (f : Filed) (k : ℕ) (fits : k < 2 ^ 48) (filed : IsFiled key f) (p : Path) (at : p ≡ id_path k) where
  pub filed_ended : (n : Filed) (itsi : ℕ) (e : Ending) → n ≡ placed f p (ended (under f p) itsi e) → IsFiled key n
  filed_ended n itsi e is =
      subst (IsFiled key) (sym (is ∙ ap (λ r. placed f r (ended (under f r) itsi e)) at))
      (filed_placed key f (id_path k) (ended (under f (id_path k)) itsi e) filed (λ q there. ended_own key f k itsi e fits filed q there ∙ sym (number-id_path k fits)))

  pub is_ended : (m : Attached) (n : Filed) (itsi : ℕ) (e : Ending) → gathered key f ≡ m → ((q : Pair) (o : Option Usage) → (key q == k) ≡ false → ended_usage itsi e q o ≡ o)
      → n ≡ placed f p (ended (under f p) itsi e) → gathered key n ≡ ended m itsi e
  is_ended m n itsi e view spares is =
      ap (gathered key) (is ∙ ap (λ r. placed f r (ended (under f r) itsi e)) at)
      ∙ gathered_ended key f k itsi e fits filed spares
      ∙ ap (λ l. ended l itsi e) view

  pub part_is : (m : Attached) (o : Option Attached) → gathered key f ≡ m → o ≡ finite.get f p → held o ≡ part_of key m k
  part_is m o view is = ap held is ∙ ap (under f) at ∙ part_under key f k fits filed ∙ ap (λ l. part_of key l k) view

  pub filed_set : {X E : Type 0} (r : Result X E) (n : Filed) (list : Attached) → AllHave key k list → OnOk r (n ≡ placed f p list) → OnErr r (n ≡ f) → IsFiled key n
  filed_set (Ok x) n list all ok err =
      subst (IsFiled key) (sym ok) (filed_placed key f p list filed (λ q there. all q there ∙ sym (number-id_path k fits) ∙ ap number (sym at)))
  filed_set (Err e) n list all ok err = subst (IsFiled key) (sym err) filed

  is_placed : (m : Attached) (n : Filed) (list : Attached) → gathered key f ≡ m → AllHave key k list → n ≡ placed f p list → (q : Pair) →
      finite.get (gathered key n) q ≡ cond (key q == k) (finite.get list q) (finite.get m q)
  is_placed m n list view all is q =
      ap (λ g. finite.get (gathered key g) q) (is ∙ ap (λ r. placed f r list) at)
      ∙ get_placed key f k list fits filed all q
      ∙ ap (λ l. cond (key q == k) (finite.get list q) (finite.get l q)) view

  pub is_set : {X E : Type 0} (r : Result X E) (m : Attached) (n : Filed) (list : Attached) → gathered key f ≡ m → AllHave key k list → OnOk r (n ≡ placed f p list)
      → OnOk r ((q : Pair) → finite.get (gathered key n) q ≡ (if key q == k then finite.get list q else finite.get m q))
  is_set (Ok x) m n list view all ok = is_placed m n list view all ok
  is_set (Err e) m n list view all ok = tt

  pub set_before : {E : Type 0} (r : Result (Option Attached) E) (m : Attached) → gathered key f ≡ m → IfOk r (λ before. before ≡ finite.get f p) → IfOk r (λ before. held before ≡ part_of key m k)
  set_before (Ok before) m view is = part_is m before view is
  set_before (Err e) m view is = tt

  pub some_before : (m : Attached) → gathered key f ≡ m → 0 < finite.len (part_of key m k) → IsSome (finite.get f p)
  some_before m view some =
      (elim (finite.get f p) as (λ o. finite.get f p ≡ o → IsSome o) [
        | None ↦ λ none. absurd (let e : finite.len (part_of key m k) ≡ 0 = ap finite.len (sym (part_is m None view (sym none))) ∙ finite.len-empty pair_cmp Usage in omega (arith, e, some))
        | Some list ↦ λ there. refl
      ]) refl

  none_has : AllHave key k no_groups
  none_has q there = absurd (absent_not (sym (finite.get-empty pair_cmp q)) there)

  pub filed_cleared : (n : Filed) → n ≡ finite.remove f p → IsFiled key n
  filed_cleared n is =
      subst (IsFiled key) (sym (is ∙ placed_nothing f p))
      (filed_placed key f p no_groups filed (λ q there. absurd (absent_not (sym (finite.get-empty pair_cmp q)) there)))

  pub is_cleared : (m : Attached) (n : Filed) → gathered key f ≡ m → n ≡ finite.remove f p → (q : Pair) →
      finite.get (gathered key n) q ≡ (if key q == k then finite.get no_groups q else finite.get m q)
  is_cleared m n view is = is_placed m n no_groups view none_has (is ∙ placed_nothing f p)

module _ (key : Pair → ℕ) (f : Filed) (p : Path) where
  pub filed_tried : {X E : Type 0} (r : Result X E) (n : Filed) (a : Attachment) → key (pair_of a) < 2 ^ 48 → IsFiled key f → p ≡ id_path (key (pair_of a))
      → OnOk r (n ≡ finite.insert f p (attached (under f p) a)) → OnErr r (n ≡ f) → IsFiled key n
  filed_tried (Ok x) n a fits filed at ok err = subst (IsFiled key) (sym (ok ∙ ap (λ r. finite.insert f r (attached (under f r) a)) at)) (filed_attached key f a fits filed)
  filed_tried (Err e) n a fits filed at ok err = subst (IsFiled key) (sym err) filed

  pub is_attached : {X E : Type 0} (r : Result X E) (m : Attached) (n : Filed) (a : Attachment) → key (pair_of a) < 2 ^ 48 → IsFiled key f → p ≡ id_path (key (pair_of a)) → gathered key f ≡ m
      → OnOk r (n ≡ finite.insert f p (attached (under f p) a)) → OnOk r (gathered key n ≡ attached m a)
  is_attached (Ok x) m n a fits filed at view ok =
      ap (gathered key) (ok ∙ ap (λ r. finite.insert f r (attached (under f r) a)) at) ∙ gathered_attached key f a fits filed ∙ ap (λ l. attached l a) view
  is_attached (Err e) m n a fits filed at view ok = tt

  pub get_under : (m : Attached) (q : Pair) → p ≡ id_path (key q) → gathered key f ≡ m → finite.get (under f p) q ≡ finite.get m q
  get_under m q at view = ap (λ r. finite.get (under f r) q) at ∙ sym (get_gathered key f q) ∙ ap (λ l. finite.get l q) view

  pub before_is : {E : Type 0} (r : Result (Option Attachment) E) (m : Attached) (q : Pair) → p ≡ id_path (key q) → gathered key f ≡ m
      → IfOk r (λ before. before ≡ attachment_at (under f p) q) → IfOk r (λ before. before ≡ attachment_at m q)
  before_is (Ok before) m q at view is = is ∙ ap (option_map (λ usage. attachment_of (q, usage))) (get_under m q at view)
  before_is (Err e) m q at view is = tt

pub copied : {E : Type 0} (r : Result Attached E) (list m : Attached) → list ≡ m → IfOk r (λ copy. copy ≡ list) → IfOk r (λ copy. copy ≡ m)
copied (Ok copy) list m same is = is ∙ same
copied (Err e) list m same is = tt
