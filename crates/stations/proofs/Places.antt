-- Lists of which the items of one place belong together.
use Rattle.std.proofs.Common.{◌≡◌, ℕ, zero, suc, List, [], ◌∷◌, length, refl, sym, ap, ◌∙◌, subst}
use Rattle.std.specs.Prelude.{All, Some, map, slice_get, slice_index_or}
use Rattle.std.specs.List.{AllZip}
use Rattle.base.proofs.Options.{some_is}
use Rattle.base.proofs.Lists.{get_within}

-- the item at a place, as all items are known by their places
pub index_at : {X : Type 0} (xs : List X) (k : ℕ) (x : X) → slice_get xs k ≡ Some x → slice_index_or xs k x ≡ x
index_at [] k x e = absurd cc
index_at {X} (y ∷ xs) zero x e = some_is y x e
index_at (y ∷ xs) (suc k) x e = index_at xs k x e

-- what holds of all items holds of the one at a place
pub of_all_at : {X : Type 0} (P : X → Type 0) (xs : List X) (k : ℕ) (x : X) → All P xs → slice_get xs k ≡ Some x → P x
of_all_at P xs k x all at = subst P (index_at xs k x at) (all k x (get_within xs k x at))

-- the value of the item at a place
pub mapped : {X Y : Type 0} (f : X → Y) (xs : List X) (k : ℕ) (x : X) → slice_get xs k ≡ Some x → slice_get (map f xs) k ≡ Some (f x)
mapped f [] k x e = absurd cc
mapped {X} f (y ∷ xs) zero x e = ap (λ (z : X). Some (f z)) (some_is y x e)
mapped f (y ∷ xs) (suc k) x e = mapped f xs k x e

-- there is one item at most
pub one_only : {X : Type 0} (xs : List X) (k : ℕ) (x y : X) → slice_get xs k ≡ Some x → slice_get xs k ≡ Some y → x ≡ y
one_only {X} xs k x y e f = some_is x y (sym e ∙ f)

pub map_length : {X Y : Type 0} (f : X → Y) (xs : List X) → length (map f xs) ≡ length xs
map_length f [] = refl
map_length f (x ∷ xs) = ap suc (map_length f xs)

pub zip_mapped : {X Y U V : Type 0} (f : X → U) (g : Y → V) (R : X → Y → Type 0) (S : U → V → Type 0) → ((x : X) (y : Y) → R x y → S (f x) (g y)) →
    (xs : List X) (ys : List Y) → AllZip R xs ys → AllZip S (map f xs) (map g ys)
zip_mapped f g R S h [] [] all = tt
zip_mapped f g R S h [] (y ∷ ys) all = absurd all
zip_mapped f g R S h (x ∷ xs) [] all = absurd all
zip_mapped f g R S h (x ∷ xs) (y ∷ ys) all = (h x y all.0, zip_mapped f g R S h xs ys all.1)
