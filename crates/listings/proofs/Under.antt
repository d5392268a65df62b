-- The radios under a prefix come one after another in the order of all.
use Rattle.std.proofs.Common.{◌≡◌, ℕ, zero, suc, ◌+◌, ◌-◌, ◌<◌, ◌≤◌, ◌^◌, Bool, true, false, cond, List, [], ◌∷◌, ◌++◌, length, replicate, Option, Some, None, refl, sym, ap, ◌∙◌, arith, length-append}
use Rattle.std.specs.Prelude.{IfSome, ◌&&◌, ◌||◌, nat_le, nat_lt, not, option_map}
use Rattle.std.specs.List.{All, filter, find}
use Rattle.std.specs.Ordering.{is_lt, nat_cmp}
use Rattle.std.specs.declared.cmp.Ordering.TheVariants.{Less}
use Rattle.std.proofs.lemmas.Bool.Decides.{nat_tests}
use Rattle.std.proofs.lemmas.List.Elements.{All-head, All-tail, All-weaker}
use Rattle.std.proofs.Math.ListN.{length-replicate}
use Rattle.identity.specs.Number.{number}
use Rattle.identity.specs.Path.{Path, path_cmp, id_path, left_aligned, begins}
use Rattle.identity.specs.Inside.PathLaws.{length-id_path, number-id_path}
use Rattle.prefix_tree.specs.Following.{is_after, next_of, AreRising}
use Rattle.prefix_tree.proofs.Order.{by_number}
use Rattle.mailbox.proofs.Lists.{pairs_head, pairs_tail}
use Rattle.listings.specs.Entries.{is_under}
use Rattle.listings.specs.Inside.Walking.{is_past, if_under}

-- the second list comes after all that the first one begins
abbrev is_beyond : Path → Path → Bool
is_beyond [] q = false
is_beyond (b ∷ p) [] = false
is_beyond (true ∷ p) (true ∷ q) = is_beyond p q
is_beyond (true ∷ p) (false ∷ q) = false
is_beyond (false ∷ p) (true ∷ q) = true
is_beyond (false ∷ p) (false ∷ q) = is_beyond p q

-- so does a later one
later_beyond : (p q r : Path) → is_beyond p q ≡ true → path_cmp q r ≡ Less → is_beyond p r ≡ true
later_beyond [] q r beyond less = absurd cc
later_beyond (b ∷ p) [] r beyond less = absurd cc
later_beyond (true ∷ p) (true ∷ q) [] beyond less = absurd cc
later_beyond (true ∷ p) (true ∷ q) (true ∷ r) beyond less = later_beyond p q r beyond less
later_beyond (true ∷ p) (true ∷ q) (false ∷ r) beyond less = absurd cc
later_beyond (true ∷ p) (false ∷ q) r beyond less = absurd cc
later_beyond (false ∷ p) (true ∷ q) [] beyond less = absurd cc
later_beyond (false ∷ p) (true ∷ q) (true ∷ r) beyond less = refl
later_beyond (false ∷ p) (true ∷ q) (false ∷ r) beyond less = absurd cc
later_beyond (false ∷ p) (false ∷ q) [] beyond less = absurd cc
later_beyond (false ∷ p) (false ∷ q) (true ∷ r) beyond less = refl
later_beyond (false ∷ p) (false ∷ q) (false ∷ r) beyond less = later_beyond p q r beyond less

not_begun : (p q : Path) → is_beyond p q ≡ true → begins p q ≡ false
not_begun [] q beyond = absurd cc
not_begun (b ∷ p) [] beyond = absurd cc
not_begun (true ∷ p) (true ∷ q) beyond = not_begun p q beyond
not_begun (true ∷ p) (false ∷ q) beyond = refl
not_begun (false ∷ p) (true ∷ q) beyond = refl
not_begun (false ∷ p) (false ∷ q) beyond = not_begun p q beyond

not_below_zeros : (q : Path) (n : ℕ) → length q ≡ n → is_lt (path_cmp q (replicate n false)) ≡ false
not_below_zeros [] zero e = refl
not_below_zeros [] (suc n) e = absurd (omega (arith, e))
not_below_zeros (b ∷ q) zero e = absurd (omega (arith, e))
not_below_zeros (true ∷ q) (suc n) e = refl
not_below_zeros (false ∷ q) (suc n) e = not_below_zeros q n (omega (arith, e))

-- what is not before the prefix and zeros after it begins with the prefix, or comes after all that does
not_below : (p q : Path) (n : ℕ) → length q ≡ length p + n → is_lt (path_cmp q (p ++ replicate n false)) ≡ not (begins p q || is_beyond p q)
not_below [] q n e = not_below_zeros q n (omega (arith, e))
not_below (b ∷ p) [] n e = absurd (omega (arith, e))
not_below (true ∷ p) (true ∷ q) n e = not_below p q n (omega (arith, e))
not_below (true ∷ p) (false ∷ q) n e = refl
not_below (false ∷ p) (true ∷ q) n e = refl
not_below (false ∷ p) (false ∷ q) n e = not_below p q n (omega (arith, e))

lt_test : (a b : ℕ) → is_lt (nat_cmp a b) ≡ nat_lt a b
lt_test a b = grind (arith, nat_tests)

le_test : (a b : ℕ) (t : Bool) → nat_lt b a ≡ not t → nat_le a b ≡ t
le_test a b true e = grind (arith, nat_tests)
le_test a b false e = grind (arith, nat_tests)

from_lowest : (p q : Path) → length p ≤ 48 → length q ≡ 48 → nat_le (left_aligned p) (number q) ≡ (begins p q || is_beyond p q)
unfolding left_aligned
from_lowest p q short whole =
    let low : Path = p ++ replicate (48 - length p) false in
    let zeros : length (replicate (48 - length p) false) ≡ 48 - length p = length-replicate (48 - length p) false in
    let same : length q ≡ length low = let both = length-append p (replicate (48 - length p) false) in omega (arith, short, whole, both, zeros) in
    let compared : path_cmp q low ≡ nat_cmp (number q) (number low) = by_number q low same in
    le_test (number low) (number q) (begins p q || is_beyond p q) (sym (lt_test (number q) (number low)) ∙ ap is_lt (sym compared) ∙ not_below p q (48 - length p) (omega (arith, short, whole)))

module _ {V : Type 0} where
  -- by numbers
  past_number : (after : Option ℕ) (e : Path × V) → IfSome after (λ n. n < 2 ^ 48) → length e.0 ≡ 48
      → is_after path_cmp (λ (e : Path × V). e.0) (option_map id_path after) e ≡ is_past after (number e.0)
  past_number None e small whole = refl
  past_number (Some k) e small whole =
      ap is_lt (by_number (id_path k) e.0 (length-id_path k ∙ sym whole)) ∙ ap (λ n. is_lt (nat_cmp n (number e.0))) (number-id_path k small) ∙ lt_test k (number e.0)

  none_begun : (p : Path) (es : List (Path × V)) → All (λ e. begins p e.0 ≡ false) es → filter (λ e. begins p e.0) es ≡ []
  none_begun p [] none = refl
  none_begun p (e ∷ es) none =
      ap (λ b. cond b (e ∷ filter (λ e. begins p e.0) es) (filter (λ e. begins p e.0) es)) (All-head (λ e. begins p e.0 ≡ false) e es none) ∙
      none_begun p es (All-tail (λ e. begins p e.0 ≡ false) e es none)

  find_if : (late : Path × V → Bool) (b : Bool) (e : Path × V) (es : List (Path × V)) → cond b (cond (late e) (Some e) (find late es)) (find late es) ≡ find late (cond b (e ∷ es) es)
  find_if late true e es = refl
  find_if late false e es = refl

  module _ (p : Path) (late start : Path × V → Bool) (starts : (e : Path × V) → length e.0 ≡ 48 → start e ≡ (late e && (begins p e.0 || is_beyond p e.0))) where
    run : (es : List (Path × V)) → AreRising path_cmp (λ e. e.0) es → All (λ e. length e.0 ≡ 48) es → if_under p (find start es) ≡ find late (filter (λ e. begins p e.0) es)
    run [] rise whole = refl
    run (e ∷ es) rise whole =
        by (begins p e.0) (late e) (start e) refl (starts e (All-head (λ e. length e.0 ≡ 48) e es whole))
        (run es (pairs_tail (λ a b. path_cmp a.0 b.0 ≡ Less) e es rise) (All-tail (λ e. length e.0 ≡ 48) e es whole))
        ∙ find_if late (begins p e.0) e (filter (λ e. begins p e.0) es)
      where
        -- where the entry is beyond, all later ones are
        no_more : begins p e.0 ≡ false → (begins p e.0 || is_beyond p e.0) ≡ true → find late (filter (λ e. begins p e.0) es) ≡ None
        no_more off so =
            let here : is_beyond p e.0 ≡ true = ap (λ b. b || is_beyond p e.0) (sym off) ∙ so in
            ap (find late) (none_begun p es
            (All-weaker (λ f. path_cmp e.0 f.0 ≡ Less) (λ f. begins p f.0 ≡ false) (λ f less. not_begun p f.0 (later_beyond p e.0 f.0 here less)) es
            (pairs_head (λ a b. path_cmp a.0 b.0 ≡ Less) e es rise)))

        by : (b l s : Bool) → begins p e.0 ≡ b → s ≡ (l && (begins p e.0 || is_beyond p e.0)) → if_under p (find start es) ≡ find late (filter (λ e. begins p e.0) es)
            → if_under p (cond s (Some e) (find start es)) ≡ cond b (cond l (Some e) (find late (filter (λ e. begins p e.0) es))) (find late (filter (λ e. begins p e.0) es))
        by true true s on is rest = ap (λ t. if_under p (cond t (Some e) (find start es))) (is ∙ ap (λ b. b || is_beyond p e.0) on) ∙ ap (λ b. cond b (Some e) None) on
        by true false s on is rest = ap (λ t. if_under p (cond t (Some e) (find start es))) is ∙ rest
        by false true false off is rest = rest
        by false true true off is rest = ap (λ b. cond b (Some e) None) off ∙ sym (no_more off (sym is))
        by false false s off is rest = ap (λ t. if_under p (cond t (Some e) (find start es))) is ∙ rest

  -- all are under no prefix
  pub all_under : (es : List (Path × V)) → filter (λ e. is_under None e.0) es ≡ es
  all_under [] = refl
  all_under (e ∷ es) = ap (λ (fs : List (Path × V)). e ∷ fs) (all_under es)

  -- where the walk of all radios begins at the later of a radio and the place before the prefix, it finds the first radio under the prefix
  pub next_under : (p : Path) (after from : Option ℕ) (es : List (Path × V)) → length p ≤ 48 → IfSome after (λ n. n < 2 ^ 48) → IfSome from (λ n. n < 2 ^ 48)
      → ((n : ℕ) → is_past from n ≡ (is_past after n && nat_le (left_aligned p) n)) → AreRising path_cmp (λ e. e.0) es → All (λ e. length e.0 ≡ 48) es
      → if_under p (next_of path_cmp (λ e. e.0) es (option_map id_path from)) ≡ next_of path_cmp (λ e. e.0) (filter (λ e. begins p e.0) es) (option_map id_path after)
  next_under p after from es short small from_small past rise whole =
      run p (is_after path_cmp (λ e. e.0) (option_map id_path after)) (is_after path_cmp (λ e. e.0) (option_map id_path from)) starts es rise whole
    where
      starts : (e : Path × V) → length e.0 ≡ 48 →
          is_after path_cmp (λ e. e.0) (option_map id_path from) e ≡
          (is_after path_cmp (λ e. e.0) (option_map id_path after) e && (begins p e.0 || is_beyond p e.0))
      starts e is =
          past_number from e from_small is ∙ past (number e.0)
          ∙ ap (λ b. b && nat_le (left_aligned p) (number e.0)) (sym (past_number after e small is))
          ∙ ap (λ b. is_after path_cmp (λ e. e.0) (option_map id_path after) e && b) (from_lowest p e.0 short is)
