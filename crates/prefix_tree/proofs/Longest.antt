-- What `longest` names is the entry under the longest prefix that begins the path.
use Rattle.std.proofs.Common.{◌≡◌, ℕ, zero, suc, ◌+◌, ◌-◌, ◌<◌, ◌≤◌, true, false, [], ◌∷◌, length, take, Option, Some, None, refl, ap, ◌∙◌, arith}
use Rattle.std.specs.Option.{option_map, option_or}
use mathlib.Core.Bool.{false≢true}
use Rattle.std.specs.FinMap as map
use Rattle.identity.specs.Path.{Path, begins}
use Rattle.identity.specs.Inside.PathLaws.{begins_then}
use Rattle.prefix_tree.specs.Table.{PathMap, longest, longest_below, NamesLongest}
use Rattle.std.proofs.lemmas.List.{length-take-le}

pub begins-take : (n : ℕ) (q : Path) → begins (take n q) q ≡ true
begins-take zero q = refl
begins-take (suc n) [] = refl
begins-take (suc n) (true ∷ q) = begins-take n q
begins-take (suc n) (false ∷ q) = begins-take n q

pub begins-length : (p q : Path) → begins p q ≡ true → length p ≤ length q
begins-length [] q e = omega arith
begins-length (x ∷ p) [] e = absurd (false≢true e)
begins-length (true ∷ p) (true ∷ q) e = let h = begins-length p q e in omega arith
begins-length (false ∷ p) (false ∷ q) e = let h = begins-length p q e in omega arith
begins-length (true ∷ p) (false ∷ q) e = absurd (false≢true e)
begins-length (false ∷ p) (true ∷ q) e = absurd (false≢true e)

-- below a number, or just under it
at_or_below : (X : Type 0) (a k : ℕ) → a < suc k → (a ≡ k → X) → (a < k → X) → X
at_or_below X zero zero lt at below = at refl
at_or_below X zero (suc k) lt at below = below (omega arith)
at_or_below X (suc a) zero lt at below = absurd (omega arith)
at_or_below X (suc a) (suc k) lt at below = at_or_below X a k (omega arith) (λ e. at (ap suc e)) (λ l. below (omega arith))

module _ {V : Type 0} where
  -- the entry is in the map and begins the path, and no longer beginning of fewer than k bits is in the map
  record IsLongestBelow (m : PathMap V) (q : Path) (k : ℕ) (e : Path × V) : Type 0 where
    pub in_map : map.get m e.0 ≡ Some e.1
    pub begins_path : begins e.0 q ≡ true
    pub no_longer : (p : Path) → begins p q ≡ true → length e.0 < length p → length p < k → map.get m p ≡ None

  abbrev NamesBelow : PathMap V → Path → ℕ → Option (Path × V) → Type 0
  NamesBelow m q k None = (p : Path) → begins p q ≡ true → length p < k → map.get m p ≡ None
  NamesBelow m q k (Some e) = IsLongestBelow m q k e

  -- a beginning of n bits is the path's first n
  cut_at : (m : PathMap V) (q p : Path) (n : ℕ) → begins p q ≡ true → length p ≡ n → map.get m (take n q) ≡ None → map.get m p ≡ None
  cut_at m q p n begun is none = ap (map.get m) (begins_then p q begun ∙ ap (λ k. take k q) is) ∙ none

  one_more : (m : PathMap V) (q : Path) (n : ℕ) (o : Option V) (r : Option (Path × V)) → n ≤ length q → map.get m (take n q) ≡ o →
      NamesBelow m q n r → NamesBelow m q (suc n) (option_or (option_map (λ v. (take n q, v)) o) r)
  one_more m q n (Some v) r fits got h = record {
    in_map = got;
    begins_path = begins-take n q;
    no_longer = λ p begun more less. absurd (omega (arith, length-take-le n q fits));
  }
  one_more m q n None None fits got h = λ p begun less. at_or_below _ (length p) n less (λ at. cut_at m q p n begun at got) (λ below. h p begun below)
  one_more m q n None (Some e) fits got h = record {
    in_map = h.in_map;
    begins_path = h.begins_path;
    no_longer = λ p begun more less. at_or_below _ (length p) n less (λ at. cut_at m q p n begun at got) (λ below. h.no_longer p begun more below);
  }

  names_below : (m : PathMap V) (q : Path) (n : ℕ) → n ≤ length q + 1 → NamesBelow m q n (longest_below m q n)
  unfolding longest_below
  names_below m q zero fits = λ p begun less. absurd (omega arith)
  names_below m q (suc n) fits = one_more m q n (map.get m (take n q)) (longest_below m q n) (omega arith) refl (names_below m q n (omega arith))

  at_full_length : (m : PathMap V) (q : Path) (r : Option (Path × V)) → NamesBelow m q (length q + 1) r → NamesLongest m q r
  at_full_length m q None h = λ p begun. let fits = begins-length p q begun in h p begun (omega arith)
  at_full_length m q (Some e) h = record {
    in_map = h.in_map;
    begins_path = h.begins_path;
    no_longer = λ p begun more. let fits = begins-length p q begun in h.no_longer p begun more (omega arith);
  }

  pub names_longest : (m : PathMap V) (q : Path) → NamesLongest m q (longest m q)
  unfolding longest
  names_longest m q = at_full_length m q (longest_below m q (length q + 1)) (names_below m q (length q + 1) (omega arith))
