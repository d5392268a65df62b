-- How commands come into the core: each is submitted by its station.
use Rattle.std.specs.Prelude.{◌==◌, get_or, nat_le, nat_lt, not, replicate, set}
use Rattle.std.specs.declared.alloc.Global.{Global}
use Rattle.std.proofs.Common.{◌≡◌, ℕ, zero, suc, ◌<◌, ◌≤◌, true, false, ◌&&◌, List, [], ◌∷◌, ◌++◌, length, take, refl, ap, sym, ◌∙◌, subst, append_assoc}
use Rattle.std.proofs.lemmas.List.{append-nil}
use Rattle.std.specs.List.{AllByRecursion}
use Rattle.base.proofs.Bools.{and_is_true}
use Rattle.base.proofs.Numbers.{same_test, test_by_less, test_by_le}
use Rattle.centre_core.specs.Asked.{Asked}
use Rattle.centre_core.specs.State.{State}
use Rattle.schedule.specs.declared.event.Event.{Event}
use Rattle.schedule.specs.declared.event.Event.TheVariants.{Submit}
use Rattle.schedule.specs.World.{World, Line, line, line_of, with_line}
use Rattle.schedule.specs.Next.{Run, emptied}
use Rattle.schedule.specs.Rounds.{AreOf, at, fed, queues, with_first}
use Rattle.schedule.proofs.Rounding.{length-fed}
use Rattle.station_queue.specs.declared.entry.Entry.{Entry}
use Rattle.station_queue.specs.declared.entry.Entry.TheVariants.{Submitted, Ended}
use Rattle.station_queue.specs.Entries.{station_of}
use Rattle.flusher.specs.Shared.{commands_among}

abbrev G : Type 0
G = Asked Global

abbrev L : Type 0
L = Line Global

-- the events that submit each of these commands
abbrev pub submits : List G → List (Event Global)
submits [] = []
submits (c ∷ cs) = Submit c.station c ∷ submits cs

-- a line with this command after its queue
abbrev with_last : G → L → L
with_last c old = line (old.queue ++ c ∷ []) old.seen

-- n stations, of which nothing waits
abbrev pub AreQuiet : ℕ → List L → Type 0
AreQuiet n xs = queues xs ≡ replicate n []

pub quiet_new : (n : ℕ) → AreQuiet n (replicate n (line [] 0))
quiet_new zero = refl
quiet_new (suc n) = ap (λ (q : List (List G)). [] ∷ q) (quiet_new n)

pub quiet_emptied : (n : ℕ) (xs : List L) → AreQuiet n xs → AreQuiet n (emptied xs)
quiet_emptied zero [] e = refl
quiet_emptied zero (x ∷ xs) e = absurd cc
quiet_emptied (suc n) [] e = absurd cc
quiet_emptied (suc n) (x ∷ xs) e = ap (λ (q : List (List G)). [] ∷ q) (quiet_emptied n xs cc)

quiet_length : (n : ℕ) (xs : List L) → AreQuiet n xs → length xs ≡ n
quiet_length zero [] e = refl
quiet_length zero (x ∷ xs) e = absurd cc
quiet_length (suc n) [] e = absurd cc
quiet_length (suc n) (x ∷ xs) e = ap suc (quiet_length n xs cc)

quiet_at : (n : ℕ) (xs : List L) (k : ℕ) → AreQuiet n xs → (get_or xs k (line [] 0)).queue ≡ []
quiet_at n [] k e = refl
quiet_at zero (x ∷ xs) k e = absurd cc
quiet_at (suc n) (x ∷ xs) zero e = let first : x.queue ≡ [] = cc in first
quiet_at (suc n) (x ∷ xs) (suc k) e = quiet_at n xs k cc

quiet_line : (n : ℕ) (xs : List L) (s : ℕ) → AreQuiet n xs → (line_of xs s).queue ≡ []
quiet_line n xs zero e = refl
quiet_line n xs (suc k) e = quiet_at n xs k e

-- ---- one command after those that wait

-- a command put before a queue and one put after a queue
turned_at : (xs : List L) (i j : ℕ) (c p : G) →
    let late : List L = set xs i (with_last c (get_or xs i (line [] 0))) in
    let early : List L = set xs j (with_first p (get_or xs j (line [] 0))) in
    set late j (with_first p (get_or late j (line [] 0))) ≡ set early i (with_last c (get_or early i (line [] 0)))
turned_at [] i j c p = refl
turned_at (x ∷ xs) zero zero c p = refl
turned_at (x ∷ xs) zero (suc j) c p = refl
turned_at (x ∷ xs) (suc i) zero c p = refl
turned_at (x ∷ xs) (suc i) (suc j) c p = ap (λ l. x ∷ l) (turned_at xs i j c p)

abbrev put_last : G → List L → List L
put_last c xs = with_line xs c.station (with_last c (line_of xs c.station))

abbrev put_first : ℕ → G → List L → List L
put_first s p xs = with_line xs s (with_first p (line_of xs s))

turned : (xs : List L) (s t : ℕ) (c p : G) →
    let late : List L = with_line xs s (with_last c (line_of xs s)) in
    let early : List L = with_line xs t (with_first p (line_of xs t)) in
    with_line late t (with_first p (line_of late t)) ≡ with_line early s (with_last c (line_of early s))
turned xs zero zero c p = refl
turned xs zero (suc j) c p = refl
turned xs (suc i) zero c p = refl
turned xs (suc i) (suc j) c p = turned_at xs i j c p

-- the last of some commands comes after the queue of the others
fed_last : (n : ℕ) (ps : List G) (c : G) (xs : List L) → AreQuiet n xs → fed (ps ++ c ∷ []) xs ≡ put_last c (fed ps xs)
fed_last n [] c xs quiet =
    let old = line_of xs c.station in
    let none = quiet_line n xs c.station quiet in
    ap (λ (q : List G). with_line xs c.station (line (c ∷ q) old.seen)) none ∙ sym (ap (λ (q : List G). with_line xs c.station (line (q ++ c ∷ []) old.seen)) none)
fed_last n (p ∷ ps) c xs quiet = ap (put_first p.station p) (fed_last n ps c xs quiet) ∙ turned (fed ps xs) c.station p.station c p

-- commands are submitted in order after those that wait
submitted_after : (base : State) (f : World Global) (n : ℕ) (ps qs : List G) (xs : List L) → f.down ≡ false → AreQuiet n xs → AreOf xs qs
    → Run base (at f (fed ps xs)) (submits qs) (at f (fed (ps ++ qs) xs))
submitted_after base f n ps [] xs up quiet are = ap (λ l. at f (fed l xs)) (append-nil ps)
submitted_after base f n ps (c ∷ cs) xs up quiet are =
    let here : (nat_lt 0 c.station && nat_le c.station (length (fed ps xs))) ≡ true = ap (λ m. nat_lt 0 c.station && nat_le c.station m) (length-fed ps xs) ∙ are.0 in
    let own : (not f.down && (c.station == c.station)) ≡ true = and_is_true _ _ (ap (λ b. not b) up) (same_test c.station) in
    let rest = submitted_after base f n (ps ++ c ∷ []) cs xs up quiet are.1 in (
      at f (fed (ps ++ c ∷ []) xs),
      (and_is_true _ _ here own, ap (λ l. at f l) (fed_last n ps c xs quiet)),
      subst (λ l. Run base (at f (fed (ps ++ c ∷ []) xs)) (submits cs) (at f (fed l xs))) (append_assoc ps (c ∷ []) cs) rest,
    )

-- all these commands are submitted where nothing waits
pub submits_run : (base : State) (f : World Global) (n : ℕ) (qs : List G) (xs : List L) → f.down ≡ false → AreQuiet n xs → AreOf xs qs → Run base (at f xs) (submits qs) (at f (fed qs xs))
submits_run base f n qs xs up quiet are = submitted_after base f n [] qs xs up quiet are

-- ---- the commands of entries that were taken

place_test : (s n : ℕ) → 0 < s → s ≤ n → (nat_lt 0 s && nat_le s n) ≡ true
place_test s n some most = and_is_true _ _ (test_by_less 0 s some) (test_by_le s n most)

-- they are of the stations of the entries
pub of_the_stations : (n : ℕ) (xs : List L) (popped : List Entry) → AreQuiet n xs → AllByRecursion (λ (x : Entry). (0 < station_of x) × (station_of x ≤ n)) popped → AreOf xs (commands_among popped)
of_the_stations n xs [] quiet h = tt
of_the_stations n xs (Submitted request ∷ es) quiet h =
    let s = station_of (Submitted request) in
    (place_test s (length xs) h.0.0 (subst (λ m. s ≤ m) (sym (quiet_length n xs quiet)) h.0.1), of_the_stations n xs es quiet h.1)
of_the_stations n xs (Ended station ∷ es) quiet h = of_the_stations n xs es quiet h.1

pub first_of_them : (xs : List L) (n : ℕ) (cs : List G) → AreOf xs cs → AreOf xs (take n cs)
first_of_them xs zero cs h = tt
first_of_them xs (suc n) [] h = tt
first_of_them xs (suc n) (c ∷ cs) h = (h.0, first_of_them xs n cs h.1)
