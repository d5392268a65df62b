-- What each change makes of the boxes.
use Rattle.std.proofs.Common.{◌≡◌, Bool, true, false, cond, List, [], ◌∷◌, ◌++◌, refl, ap, sym, ◌∙◌, Option, Some, None, Result, Ok, Err, ◌⊎◌, inl, inr}
use Rattle.std.specs.Option.{is_some}
use Rattle.std.specs.Prelude.{IsSome, OnOk, OnErr, not, ◌&&◌}
use Rattle.std.specs.List.{filter}
use Rattle.std.specs.FinMap as finite
use Rattle.std.specs.FinMap.{get-insert, get-remove, same_map}
use Rattle.std.specs.Ordering.{eq_by_cmp}
use Rattle.std.proofs.lemmas.Bool.{not_from_false, false≢true, false_from_ne_true}
use Rattle.std.proofs.lemmas.List.{append-nil}
use Rattle.std.proofs.lemmas.List.Elements.{filter_agree, filter-append}
use Rattle.identity.specs.Path.{Path, path_cmp, id_path}
use Rattle.identity.specs.Inside.PathLaws.{paths_total, paths_exact, tie_exact, tied}
use Rattle.prefix_tree.specs.Change.{with_value}
use Rattle.mailbox.specs.Values.{Item}
use Rattle.mailbox.specs.Item.{is_at}
use Rattle.mailbox.specs.Inside.Boxes.{Boxes, contents, items_under, box_of, with_items, swept, put_last, put, is_under}
use Rattle.mailbox.proofs.Lists.{beside, filter_twice, filter_within, filter_turned}
use Rattle.mailbox.proofs.Keys.{key_exact, under_other}

-- each destination's box has its items
abbrev pub IsBoxed : List Item → Boxes → Type 0
IsBoxed ws boxes = (p : Path) → finite.get boxes p ≡ box_of (filter (is_under p) ws)

pub contents_back : (ws : List Item) → contents (box_of ws) ≡ ws
contents_back [] = refl
contents_back (w ∷ ws) = refl

pub items_boxed : (ws : List Item) (boxes : Boxes) (p : Path) → IsBoxed ws boxes → items_under boxes p ≡ filter (is_under p) ws
items_boxed ws boxes p boxed = ap contents (boxed p) ∙ contents_back (filter (is_under p) ws)

pub get_with : (boxes : Boxes) (p : Path) (ws : List Item) (q : Path) → finite.get (with_items boxes p ws) q ≡ cond (eq_by_cmp path_cmp q p) (box_of ws) (finite.get boxes q)
get_with boxes p [] q = get-remove paths_total boxes p q
get_with boxes p (w ∷ ws) q = get-insert paths_total boxes p (w ∷ ws) q

-- a box of the new boxes, at the path that was written and elsewhere
by_path : (p q : Path) (b : Bool) (new old : Option (List Item)) (want : Path → Option (List Item)) → eq_by_cmp path_cmp q p ≡ b → new ≡ want p →
    (eq_by_cmp path_cmp q p ≡ false → old ≡ want q) → cond b new old ≡ want q
by_path p q true new old want e here elsewhere = here ∙ ap want (sym (tie_exact q p e))
by_path p q false new old want e here elsewhere = elsewhere e

module _ (ws : List Item) (boxes : Boxes) (boxed : IsBoxed ws boxes) where
  swept_here : (p : Path) (test : Item → Bool) → filter (λ w. not (test w)) (items_under boxes p) ≡ filter (is_under p) (filter (λ w. not (is_under p w && test w)) ws)
  swept_here p test =
      ap (filter (λ w. not (test w))) (items_boxed ws boxes p boxed) ∙ filter_twice (λ w. not (test w)) (is_under p) ws
      ∙ filter_agree (λ w. is_under p w && not (test w)) (λ w. not (is_under p w && test w) && is_under p w) (λ w. beside (is_under p w) (test w)) ws
      ∙ sym (filter_twice (is_under p) (λ w. not (is_under p w && test w)) ws)

  not_there : (p q : Path) (test : Item → Bool) → eq_by_cmp path_cmp q p ≡ false → (w : Item) → is_under q w ≡ true → not (is_under p w && test w) ≡ true
  not_there p q test other w here = ap (λ b. not (b && test w)) (under_other p q (id_path w.key.destination) other here)

  pub boxed_swept : (p : Path) (test : Item → Bool) → IsBoxed (filter (λ w. not (is_under p w && test w)) ws) (swept boxes p test)
  boxed_swept p test q =
      get_with boxes p (filter (λ w. not (test w)) (items_under boxes p)) q
      ∙ by_path p q (eq_by_cmp path_cmp q p) _ _ (λ z. box_of (filter (is_under z) (filter (λ w. not (is_under p w && test w)) ws))) refl (ap box_of (swept_here p test))
      (λ other. boxed q ∙ ap box_of (sym (filter_within (is_under q) (λ w. not (is_under p w && test w)) (not_there p q test other) ws)))

  put_here : (w : Item) → put_last (items_under boxes (id_path w.key.destination)) w ≡ filter (is_under (id_path w.key.destination)) (put_last ws w)
  put_here w =
      let p : Path = id_path w.key.destination in
      ap (λ os. put_last os w) (items_boxed ws boxes p boxed)
      ∙ ap (λ os. os ++ w ∷ []) (filter_turned (λ o. not (is_at w.key o)) (is_under p) ws)
      ∙ ap (λ b. filter (is_under p) (filter (λ o. not (is_at w.key o)) ws) ++ cond b (w ∷ []) []) (sym (tied p))
      ∙ sym (filter-append (is_under p) (filter (λ o. not (is_at w.key o)) ws) (w ∷ []))

  not_at : (w : Item) (q : Path) → is_under q w ≡ false → (o : Item) → is_under q o ≡ true → not (is_at w.key o) ≡ true
  not_at w q other o here =
      not_from_false (is_at w.key o) (false_from_ne_true (is_at w.key o)
      (λ at. false≢true (sym other ∙ ap (λ k. eq_by_cmp path_cmp q (id_path k.destination)) (key_exact w.key o.key at) ∙ here)))

  put_elsewhere : (w : Item) (q : Path) → is_under q w ≡ false → filter (is_under q) ws ≡ filter (is_under q) (put_last ws w)
  put_elsewhere w q other =
      sym (filter_within (is_under q) (λ o. not (is_at w.key o)) (not_at w q other) ws)
      ∙ sym (append-nil (filter (is_under q) (filter (λ o. not (is_at w.key o)) ws)))
      ∙ ap (λ b. filter (is_under q) (filter (λ o. not (is_at w.key o)) ws) ++ cond b (w ∷ []) []) (sym other)
      ∙ sym (filter-append (is_under q) (filter (λ o. not (is_at w.key o)) ws) (w ∷ []))

  pub boxed_put : (w : Item) → IsBoxed (put_last ws w) (put boxes w)
  boxed_put w q =
      let p : Path = id_path w.key.destination in
      get_with boxes p (put_last (items_under boxes p) w) q
      ∙ by_path p q (eq_by_cmp path_cmp q p) _ _ (λ z. box_of (filter (is_under z) (put_last ws w))) refl (ap box_of (put_here w))
      (λ other. boxed q ∙ ap box_of (put_elsewhere w q other))

unless_there : (b : Bool) (x y : Option (List Item)) → (b ≡ true → y ≡ x) → cond b x y ≡ y
unless_there true x y h = sym (h refl)
unless_there false x y h = refl

-- to write what is there changes nothing
pub written_again : (boxes : Boxes) (p : Path) (ws : List Item) → Some ws ≡ finite.get boxes p → finite.insert boxes p ws ≡ boxes
written_again boxes p ws is = same_map paths_total paths_exact _ _ (λ q.
    get-insert paths_total boxes p ws q ∙ unless_there (eq_by_cmp path_cmp q p) (Some ws) (finite.get boxes q) (λ e. ap (finite.get boxes) (tie_exact q p e) ∙ sym is))

-- without a box for nothing
pub with_box : (boxes : Boxes) (p : Path) (ws : List Item) → with_value boxes p (box_of ws) ≡ with_items boxes p ws
with_box boxes p [] = refl
with_box boxes p (w ∷ ws) = refl

-- there is no box, or one with these
pub box_or_none : (o : Option (List Item)) → (o ≡ None) ⊎ ((ws : List Item) × (o ≡ Some ws))
box_or_none None = inl refl
box_or_none (Some ws) = inr (ws, refl)

pub none_there : {o : Option (List Item)} → o ≡ None → IsSome o → ⊥
none_there none there = false≢true (sym (ap is_some none) ∙ there)

-- a closure's answer, that it is the answer, and what its relation says
pub by_answer : {A G : Type 0} {B C : A → Type 0} → ((a : A) × B a × C a) → ((a : A) → B a → C a → G) → G
by_answer made use_it = use_it made.0 made.1 made.2

-- a closure writes the box, or leaves it as it was where it fails
pub written : {X E : Type 0} (r : Result X E) (boxes new : Boxes) (p : Path) (left : Option (List Item)) (ws : List Item) →
    new ≡ with_value boxes p left → OnOk r (left ≡ Some ws) → OnOk r (new ≡ finite.insert boxes p ws)
written (Ok x) boxes new p left ws is made = is ∙ ap (with_value boxes p) made
written (Err e) boxes new p left ws is made = tt

pub unwritten : {X E : Type 0} (r : Result X E) (boxes new : Boxes) (p : Path) (left : Option (List Item)) (ws : List Item) →
    new ≡ with_value boxes p left → finite.get boxes p ≡ Some ws → OnErr r (left ≡ Some ws) → OnErr r (new ≡ boxes)
unwritten (Ok x) boxes new p left ws is there same = tt
unwritten (Err e) boxes new p left ws is there same = is ∙ ap (with_value boxes p) same ∙ written_again boxes p ws (sym there)
