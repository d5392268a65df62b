-- What a joined map has at each path.
use Rattle.std.proofs.Common.{◌≡◌, Bool, true, false, cond, List, [], ◌∷◌, ◌++◌, Option, Some, None, refl, sym, ap, subst, ◌∙◌}
use mathlib.Core.Bool.{false≢true}
use Rattle.std.specs.Option.{option_or}
use Rattle.std.specs.Ordering.{eq_by_cmp}
use Rattle.std.specs.FinMap as map
use Rattle.std.specs.FinMap.{find, get-entries, get-from_entries, get-insert, get-remove, get-empty, same_map}
use Rattle.base.proofs.Bools.{never}
use Rattle.identity.specs.Path.{Path, path_cmp, begins}
use Rattle.identity.specs.Inside.PathLaws.{paths_total, paths_exact, tie_exact}
use Rattle.prefix_tree.specs.Table.{PathMap}
use Rattle.prefix_tree.specs.Inside.Around.{own_entry, around_entries, around, KeysUnder}
use Rattle.prefix_tree.proofs.Begins.{begins_trans, pick, pick_is, pick_here, pick_zero, pick_one, pick_off, set_here, set_zero, set_one}

pub under_empty : (V : Type 0) → (p : Path) → KeysUnder {V = V} p map.empty
unfolding KeysUnder
under_empty V p q off = get-empty path_cmp q

module _ {V : Type 0} where
  find-append : (q : Path) (es fs : List (Path × V)) → find path_cmp q (es ++ fs) ≡ option_or (find path_cmp q es) (find path_cmp q fs)
  find-append q [] fs = refl
  find-append q (e ∷ es) fs = either (eq_by_cmp path_cmp q e.0) _ _ _ _ (find-append q es fs)
    where
      either : (b : Bool) (x : V) (r s t : Option V) → r ≡ option_or s t → cond b (Some x) r ≡ option_or (cond b (Some x) s) t
      either true x r s t e = refl
      either false x r s t e = e

  abbrev the_none : Option V
  the_none = None

  find_own : (p q : Path) (v : Option V) → find path_cmp q (own_entry p v) ≡ cond (eq_by_cmp path_cmp q p) v None
  find_own p q None = none (eq_by_cmp path_cmp q p)
    where
      none : (b : Bool) → the_none ≡ cond b the_none the_none
      none true = refl
      none false = refl
  find_own p q (Some x) = refl

  pub under_wider : (r p : Path) (m : PathMap V) → begins r p ≡ true → KeysUnder p m → KeysUnder r m
  unfolding KeysUnder
  under_wider r p m e keys q off = keys q (never (begins p q) (λ so. false≢true (sym off ∙ begins_trans r p q e so)))

  pub under_off : (p q : Path) (m : PathMap V) → KeysUnder p m → begins p q ≡ false → map.get m q ≡ None
  unfolding KeysUnder
  under_off p q m keys off = keys q off

  module _ (p : Path) (v : Option V) (l r : PathMap V) (left : KeysUnder (p ++ false ∷ []) l) (right : KeysUnder (p ++ true ∷ []) r) where
    pub get_around : (q : Path) → map.get (around p v l r) q ≡ pick p q v (map.get l q) (map.get r q)
    unfolding around KeysUnder
    get_around q =
        get-from_entries paths_total (around_entries p v l r) q
        ∙ find-append q (own_entry p v) (map.entries l ++ map.entries r)
        ∙ (λ i. option_or (find_own p q v i) (find-append q (map.entries l) (map.entries r) i))
        ∙ (λ i. option_or (cond (eq_by_cmp path_cmp q p) v None) (option_or (sym (get-entries l q) i) (sym (get-entries r q) i)))
        ∙ pick_is p q v (map.get l q) (map.get r q) (left q) (right q)

    pub get_here : map.get (around p v l r) p ≡ v
    get_here = get_around p ∙ pick_here p v _ _

    pub get_zero : (q : Path) → begins (p ++ false ∷ []) q ≡ true → map.get (around p v l r) q ≡ map.get l q
    get_zero q e = get_around q ∙ pick_zero p q v _ _ e

    pub get_one : (q : Path) → begins (p ++ true ∷ []) q ≡ true → map.get (around p v l r) q ≡ map.get r q
    get_one q e = get_around q ∙ pick_one p q v _ _ e

    pub keys_around : KeysUnder p (around p v l r)
    unfolding KeysUnder
    keys_around q off = get_around q ∙ pick_off p q v _ _ off

  module _ (p : Path) (m : PathMap V) (under : KeysUnder p m) (q : Path) (within : begins p q ≡ true) where
    same : (q' : Path) → eq_by_cmp path_cmp q' q ≡ true → begins p q' ≡ true
    same q' e = subst (λ z. begins p z ≡ true) (sym (tie_exact q' q e)) within

    other : (t : Bool) (o a : Option V) (b : Bool) → (t ≡ true → b ≡ true) → b ≡ false → a ≡ None → cond t o a ≡ None
    other true o a b h e n = absurd (false≢true (sym e ∙ h refl))
    other false o a b h e n = n

    pub keys_insert : (x : V) → KeysUnder p (map.insert m q x)
    unfolding KeysUnder
    keys_insert x q' off = get-insert paths_total m q x q' ∙ other (eq_by_cmp path_cmp q' q) (Some x) (map.get m q') (begins p q') (same q') off (under q' off)

    pub keys_remove : KeysUnder p (map.remove m q)
    unfolding KeysUnder
    keys_remove q' off = get-remove paths_total m q q' ∙ other (eq_by_cmp path_cmp q' q) None (map.get m q') (begins p q') (same q') off (under q' off)

  pub insert_here : (p : Path) (v : Option V) (l r : PathMap V) → KeysUnder (p ++ false ∷ []) l → KeysUnder (p ++ true ∷ []) r → (x : V) → around p (Some x) l r ≡ map.insert (around p v l r) p x
  insert_here p v l r left right x = same_map paths_total paths_exact _ _ (λ q.
      get_around p (Some x) l r left right q ∙ set_here p q v _ _ (Some x) _ refl
      ∙ ap (cond (eq_by_cmp path_cmp q p) (Some x)) (sym (get_around p v l r left right q)) ∙ sym (get-insert paths_total (around p v l r) p x q))

  pub remove_here : (p : Path) (v : Option V) (l r : PathMap V) → KeysUnder (p ++ false ∷ []) l → KeysUnder (p ++ true ∷ []) r → around p None l r ≡ map.remove (around p v l r) p
  remove_here p v l r left right = same_map paths_total paths_exact _ _ (λ q.
      get_around p None l r left right q ∙ set_here p q v _ _ None _ refl
      ∙ ap (cond (eq_by_cmp path_cmp q p) None) (sym (get_around p v l r left right q)) ∙ sym (get-remove paths_total (around p v l r) p q))

  module _ (p : Path) (v : Option V) (l r : PathMap V) (left : KeysUnder (p ++ false ∷ []) l) (right : KeysUnder (p ++ true ∷ []) r) (k : Path) where
    here : (b : Bool) → begins (p ++ b ∷ []) k ≡ true → (q : Path) → eq_by_cmp path_cmp q k ≡ true → begins (p ++ b ∷ []) q ≡ true
    here b within q e = subst (λ z. begins (p ++ b ∷ []) z ≡ true) (sym (tie_exact q k e)) within

    pub insert_zero : (x : V) → begins (p ++ false ∷ []) k ≡ true → around p v (map.insert l k x) r ≡ map.insert (around p v l r) k x
    insert_zero x within = same_map paths_total paths_exact _ _ (λ q.
        get_around p v (map.insert l k x) r (keys_insert _ l left k within x) right q
        ∙ ap (λ z. pick p q v z (map.get r q)) (get-insert paths_total l k x q)
        ∙ set_zero p q v _ _ (Some x) (eq_by_cmp path_cmp q k) (here false within q)
        ∙ ap (cond (eq_by_cmp path_cmp q k) (Some x)) (sym (get_around p v l r left right q)) ∙ sym (get-insert paths_total (around p v l r) k x q))

    pub insert_one : (x : V) → begins (p ++ true ∷ []) k ≡ true → around p v l (map.insert r k x) ≡ map.insert (around p v l r) k x
    insert_one x within = same_map paths_total paths_exact _ _ (λ q.
        get_around p v l (map.insert r k x) left (keys_insert _ r right k within x) q
        ∙ ap (λ z. pick p q v (map.get l q) z) (get-insert paths_total r k x q)
        ∙ set_one p q v _ _ (Some x) (eq_by_cmp path_cmp q k) (here true within q)
        ∙ ap (cond (eq_by_cmp path_cmp q k) (Some x)) (sym (get_around p v l r left right q)) ∙ sym (get-insert paths_total (around p v l r) k x q))

    pub remove_zero : begins (p ++ false ∷ []) k ≡ true → around p v (map.remove l k) r ≡ map.remove (around p v l r) k
    remove_zero within = same_map paths_total paths_exact _ _ (λ q.
        get_around p v (map.remove l k) r (keys_remove _ l left k within) right q
        ∙ ap (λ z. pick p q v z (map.get r q)) (get-remove paths_total l k q)
        ∙ set_zero p q v _ _ None (eq_by_cmp path_cmp q k) (here false within q)
        ∙ ap (cond (eq_by_cmp path_cmp q k) None) (sym (get_around p v l r left right q)) ∙ sym (get-remove paths_total (around p v l r) k q))

    pub remove_one : begins (p ++ true ∷ []) k ≡ true → around p v l (map.remove r k) ≡ map.remove (around p v l r) k
    remove_one within = same_map paths_total paths_exact _ _ (λ q.
        get_around p v l (map.remove r k) left (keys_remove _ r right k within) q
        ∙ ap (λ z. pick p q v (map.get l q) z) (get-remove paths_total r k q)
        ∙ set_one p q v _ _ None (eq_by_cmp path_cmp q k) (here true within q)
        ∙ ap (cond (eq_by_cmp path_cmp q k) None) (sym (get_around p v l r left right q)) ∙ sym (get-remove paths_total (around p v l r) k q))

  pub around_zero : (p : Path) (l : PathMap V) → KeysUnder (p ++ false ∷ []) l → around p None l map.empty ≡ l
  around_zero p l left = same_map paths_total paths_exact _ _ (λ q.
      get_around p None l map.empty left (under_empty V _) q ∙ ap (pick p q None (map.get l q)) (get-empty path_cmp q) ∙ alone p q (map.get l q) (under_off _ q l left))
    where
      alone : (p q : Path) (a : Option V) → (begins (p ++ false ∷ []) q ≡ false → a ≡ None) → pick p q None a None ≡ a
      alone [] [] a h = sym (h refl)
      alone [] (false ∷ q) a h = refl
      alone [] (true ∷ q) a h = sym (h refl)
      alone (true ∷ p) [] a h = sym (h refl)
      alone (false ∷ p) [] a h = sym (h refl)
      alone (true ∷ p) (true ∷ q) a h = alone p q a h
      alone (false ∷ p) (false ∷ q) a h = alone p q a h
      alone (true ∷ p) (false ∷ q) a h = sym (h refl)
      alone (false ∷ p) (true ∷ q) a h = sym (h refl)

  pub around_one : (p : Path) (r : PathMap V) → KeysUnder (p ++ true ∷ []) r → around p None map.empty r ≡ r
  around_one p r right = same_map paths_total paths_exact _ _ (λ q.
      get_around p None map.empty r (under_empty V _) right q ∙ ap (λ z. pick p q None z (map.get r q)) (get-empty path_cmp q) ∙ alone p q (map.get r q) (under_off _ q r right))
    where
      alone : (p q : Path) (b : Option V) → (begins (p ++ true ∷ []) q ≡ false → b ≡ None) → pick p q None None b ≡ b
      alone [] [] b h = sym (h refl)
      alone [] (true ∷ q) b h = refl
      alone [] (false ∷ q) b h = sym (h refl)
      alone (true ∷ p) [] b h = sym (h refl)
      alone (false ∷ p) [] b h = sym (h refl)
      alone (true ∷ p) (true ∷ q) b h = alone p q b h
      alone (false ∷ p) (false ∷ q) b h = alone p q b h
      alone (true ∷ p) (false ∷ q) b h = sym (h refl)
      alone (false ∷ p) (true ∷ q) b h = sym (h refl)

pub around_empty : (V : Type 0) → (p : Path) → around {V = V} p None map.empty map.empty ≡ map.empty
around_empty V p = around_zero p map.empty (under_empty V _)
