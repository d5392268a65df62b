-- A batch: how it is taken, and how its commands are given to a commit.
use Rattle.std.specs.Prelude.{map, take, drop, set, slice_index_or, slice_get, Some}
use Rattle.std.specs.Borrow.{Bor}
use Rattle.std.specs.Arc.{arc_value}
use Rattle.std.specs.declared.alloc.Global.{Global}
use Rattle.std.specs.declared.sync.Arc.{Arc}
use Rattle.std.proofs.Common.{◌≡◌, ℕ, zero, suc, ◌+◌, ◌-◌, ◌<◌, ◌≤◌, Bool, true, List, [], ◌∷◌, ◌++◌, length, refl, ap, sym, ◌∙◌, subst, arith}
use Rattle.base.proofs.Lists.{set_length}
use Rattle.centre_core.specs.Asked.{Asked}
use Rattle.station_queue.specs.declared.entry.Entry.{Entry}
use Rattle.station_queue.specs.declared.entry.Entry.TheVariants.{Submitted, Ended}
use Rattle.station_queue.specs.Entries.{station_of}
use Rattle.flusher.specs.Shared.{commands_in, commands_among}
use Rattle.flusher.specs.Batches.{AreWithin, accepted_by, ended_by}

abbrev G : Type 0
G = Asked Global

-- one more place is filled
filled : (cs : List (Bor G)) (ys : List (Arc G Global)) (k : ℕ) (r : Bor G) (a : Arc G Global) → k < length cs → k < length ys → a ≡ slice_index_or ys k a → r.now ≡ arc_value a
    → map (λ c. c.now) (take k cs) ≡ take k (commands_in ys) → map (λ c. c.now) (take (suc k) (set cs k r)) ≡ take (suc k) (commands_in ys)
filled [] ys k r a le lt at is h = absurd (omega arith)
filled (c ∷ cs) [] k r a le lt at is h = absurd (omega arith)
filled (c ∷ cs) (y ∷ ys) zero r a le lt at is h = ap (λ v. v ∷ []) (is ∙ ap arc_value at)
filled (c ∷ cs) (y ∷ ys) (suc k) r a le lt at is h =
    let rest = filled cs ys k r a (omega arith) (omega arith) at is (cc h) in
    let first : c.now ≡ arc_value y = cc h in
    cc (first, rest)

pub filled_next : (cs : List (Bor G)) (ys : List (Arc G Global)) (k : ℕ) (r : Bor G) (a : Arc G Global) → k < length cs → k < length ys → a ≡ slice_index_or ys k a → r.now ≡ arc_value a
    → map (λ c. c.now) (take k cs) ≡ take k (commands_in ys) → map (λ c. c.now) (take (k + 1) (set cs k r)) ≡ take (k + 1) (commands_in ys)
filled_next cs ys k r a le lt at is h =
    let e : suc k ≡ k + 1 = omega arith in
    subst (λ n. map (λ c. c.now) (take n (set cs k r)) ≡ take n (commands_in ys)) e (filled cs ys k r a le lt at is h)

pub at_or : {X : Type 0} (xs : List X) (k : ℕ) (a : X) → k < length xs → a ≡ slice_index_or xs k a → slice_get xs k ≡ Some a
at_or [] k a lt e = absurd (omega arith)
at_or (x ∷ xs) zero a lt e = ap Some (sym e)
at_or (x ∷ xs) (suc k) a lt e = at_or xs k a (omega arith) e

pub drop_past : {X : Type 0} (xs : List X) (k : ℕ) → length xs ≤ k → drop k xs ≡ []
drop_past [] zero le = refl
drop_past [] (suc k) le = refl
drop_past (x ∷ xs) zero le = absurd (omega arith)
drop_past (x ∷ xs) (suc k) le = drop_past xs k (omega arith)

pub none_by : (cs : List G) → accepted_by cs [] ≡ []
none_by [] = refl
none_by (c ∷ cs) = refl

pub commands_among-append : (xs ys : List Entry) → commands_among (xs ++ ys) ≡ commands_among xs ++ commands_among ys
commands_among-append [] ys = refl
commands_among-append (Submitted a ∷ xs) ys = ap (λ l. arc_value a.command ∷ l) (commands_among-append xs ys)
commands_among-append (Ended s ∷ xs) ys = commands_among-append xs ys

pub one_within : (made : ℕ) (x : Entry) → 0 < station_of x → station_of x ≤ made → AreWithin made (commands_among (x ∷ []))
one_within made (Submitted a) pos le = ((pos, le), tt)
one_within made (Ended s) pos le = tt

pub length-commands_in : (xs : List (Arc G Global)) → length (commands_in xs) ≡ length xs
length-commands_in [] = refl
length-commands_in (x ∷ xs) = ap suc (length-commands_in xs)

pub ended_by-append : (xs ys : List Entry) (flags : List Bool) → ended_by (xs ++ ys) flags ≡ ended_by ys (ended_by xs flags)
ended_by-append [] ys flags = refl
ended_by-append (Submitted a ∷ xs) ys flags = ended_by-append xs ys flags
ended_by-append (Ended s ∷ xs) ys flags = ended_by-append xs ys (set flags (s - 1) true)

pub length-ended : (xs : List Entry) (flags : List Bool) → length (ended_by xs flags) ≡ length flags
length-ended [] flags = refl
length-ended (Submitted a ∷ xs) flags = length-ended xs flags
length-ended (Ended s ∷ xs) flags = length-ended xs (set flags (s - 1) true) ∙ set_length flags (s - 1) true
