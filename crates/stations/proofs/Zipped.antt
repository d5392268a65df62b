-- Two lists of which the items of one place belong together, made by a loop over the first.
use Rattle.std.proofs.Common.{◌≡◌, List, [], ◌∷◌, ◌++◌, length, sym, ◌∙◌, subst, arith}
use Rattle.std.specs.Prelude.{Result, Ok, Err, MatchResult}
use Rattle.std.specs.List.{AllZip}
use Rattle.std.proofs.lemmas.List.{append-nil}
use Rattle.base.proofs.Lists.{zip_push}

-- where nothing comes next, all is done
pub whole : {A : Type 0} (done rest all : List A) → done ++ rest ≡ all → length rest ≡ 0 → done ≡ all
whole done [] all e none = sym (append-nil done) ∙ e
whole done (x ∷ rest) all e none = absurd (omega (arith, none))

module _ {A B : Type 0} where
  -- one more of each
  pub one_more : (xs : List A) (ys new : List B) (x : A) (y : B) (R : A → B → Type 0) → new ≡ ys ++ y ∷ [] → AllZip R xs ys → R x y → AllZip R (xs ++ x ∷ []) new
  one_more xs ys new x y R e all this = subst (λ l. AllZip R (xs ++ x ∷ []) l) (sym e) (zip_push R xs ys x y all this)

  -- at the end of the loop
  pub of_all : (done rest all : List A) (ys : List B) (R : A → B → Type 0) → done ++ rest ≡ all → length rest ≡ 0 → AllZip R done ys → AllZip R all ys
  of_all done rest all ys R e none zip = subst (λ l. AllZip R l ys) (whole done rest all e none) zip

  -- before the loop
  pub none : (ys : List B) (R : A → B → Type 0) → ys ≡ [] → AllZip R [] ys
  none ys R e = subst (λ l. AllZip R [] l) (sym e) tt

-- what belongs to what belongs to an item
pub through : {A B C : Type 0} (xs : List A) (ys : List B) (zs : List C) (P : A → B → Type 0) (Q : B → C → Type 0) (R : A → C → Type 0) →
    ((x : A) (y : B) (z : C) → P x y → Q y z → R x z) → AllZip P xs ys → AllZip Q ys zs → AllZip R xs zs
through [] [] [] P Q R f p q = tt
through [] [] (z ∷ zs) P Q R f p q = absurd q
through [] (y ∷ ys) zs P Q R f p q = absurd p
through (x ∷ xs) [] zs P Q R f p q = absurd p
through (x ∷ xs) (y ∷ ys) [] P Q R f p q = absurd q
through (x ∷ xs) (y ∷ ys) (z ∷ zs) P Q R f p q = (f x y z p.0 q.0, through xs ys zs P Q R f p.1 q.1)

-- what follows from both facts of a result, whichever it is
pub either_way : {H D : Type 0} (b : Result H D) {P Q : H → Type 0} {S T : D → Type 0} {goal : Type 0} →
    ((h : H) → P h → Q h → goal) → ((d : D) → S d → T d → goal) → MatchResult b P S → MatchResult b Q T → goal
either_way (Ok h) f e p q = f h p q
either_way (Err d) f e p q = e d p q
