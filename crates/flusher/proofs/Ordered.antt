-- The order of the durable commands.
use Rattle.std.specs.Prelude.{◌==◌}
use Rattle.std.specs.Arc.{arc_value}
use Rattle.std.specs.declared.alloc.Global.{Global}
use Rattle.std.proofs.Common.{◌≡◌, ℕ, zero, suc, Bool, true, false, cond, List, [], ◌∷◌, ◌++◌, take, refl, ap, sym, subst}
use Rattle.std.proofs.lemmas.List.{append-nil}
use mathlib.Core.List.{Sublist, nil-sublist, Sublistᴰ}
use mathlib.Core.List.Sublist
use mathlib.Core.Logic.{∥∥₁_map}
use Rattle.registration.specs.Numbers.{Station}
use Rattle.centre_core.specs.Asked.{Asked}
use Rattle.centre_core.specs.State.{State}
use Rattle.centre_core.specs.History.{is_acceptance, next}
use Rattle.centre_core.specs.InTurn.{reply_to}
use Rattle.centre_core.specs.Batches.{taken}
use Rattle.centre_core.specs.declared.reply.Reply.TheVariants.{Accepted, Kept, Refused}
use Rattle.recovery.specs.declared.outcome.Outcome.{Outcome}
use Rattle.recovery.specs.declared.outcome.Outcome.TheVariants as outcome
use Rattle.station_queue.specs.declared.entry.Entry.{Entry}
use Rattle.station_queue.specs.declared.entry.Entry.TheVariants.{Submitted, Ended}
use Rattle.station_queue.specs.Entries.{entries_of}
use Rattle.flusher.specs.Shared.{commands_among}
use Rattle.flusher.specs.Batches.{accepted_by}
use Rattle.flusher.proofs.Batched.{commands_among-append}
use Rattle.flusher.specs.Order.{of_station, AreInOrder}

abbrev G : Type 0
G = Asked Global

-- ---- some of a list, in order

-- the commands of a batch that were accepted are some of it
pub accepted_are_some : (cs : List G) (os : List (Outcome Global)) → Sublist (accepted_by cs os) cs
accepted_are_some [] os = Sublist.refl []
accepted_are_some (c ∷ cs) [] = nil-sublist (c ∷ cs)
accepted_are_some (c ∷ cs) (outcome.Replied (Accepted n p) ∷ os) = Sublist.cons-cons c (accepted_are_some cs os)
accepted_are_some (c ∷ cs) (outcome.Replied (Kept n p) ∷ os) = Sublist.cons c (accepted_are_some cs os)
accepted_are_some (c ∷ cs) (outcome.Replied (Refused r) ∷ os) = Sublist.cons c (accepted_are_some cs os)
accepted_are_some (c ∷ cs) (outcome.NoMemory ∷ os) = Sublist.cons c (accepted_are_some cs os)

-- so are those that are accepted in turn
taken_are_some : (cs : List G) (s : State) → Sublist (taken s cs) cs
taken_are_some [] s = Sublist.refl []
taken_are_some (c ∷ cs) s = by (is_acceptance (reply_to s c)) (taken_are_some cs (next s c))
  where
    by : (b : Bool) → Sublist (taken (next s c) cs) cs → Sublist (cond b (c ∷ taken (next s c) cs) (taken (next s c) cs)) (c ∷ cs)
    by true h = Sublist.cons-cons c h
    by false h = Sublist.cons c h

-- so are its first ones
pub take_is_some : (n : ℕ) (cs : List G) → Sublist (take n cs) cs
take_is_some zero cs = nil-sublist cs
take_is_some (suc n) [] = Sublist.refl []
take_is_some (suc n) (c ∷ cs) = Sublist.cons-cons c (take_is_some n cs)

-- so are those of the first commands
pub first_are_some : (n : ℕ) (cs : List G) (s : State) → Sublist (taken s (take n cs)) cs
first_are_some n cs s = Sublist.trans (taken_are_some (take n cs) s) (take_is_some n cs)

pub some_joined : (xs ys whole more : List G) → Sublist xs whole → Sublist ys more → Sublist (xs ++ ys) (whole ++ more)
some_joined xs ys whole more h k = Sublist.append h k

pub some_longer : (xs whole more : List G) → Sublist xs whole → Sublist xs (whole ++ more)
some_longer xs whole more h = subst (λ l. Sublist l (whole ++ more)) (append-nil xs) (Sublist.append h (nil-sublist more))

some_of : (s : Station) (xs ys : List G) → Sublistᴰ xs ys → Sublistᴰ (of_station s xs) (of_station s ys)
some_of s [] [] Sublistᴰ.slnil = Sublistᴰ.slnil
some_of s (x ∷ xs) [] h = elim h [ ]
some_of s xs (y ∷ ys) (Sublistᴰ.cons h) = by (y.station == s) (some_of s xs ys h)
  where
    by : (b : Bool) → Sublistᴰ (of_station s xs) (of_station s ys) → Sublistᴰ (of_station s xs) (cond b (y ∷ of_station s ys) (of_station s ys))
    by true r = Sublistᴰ.cons r
    by false r = r
some_of s (x ∷ xs) (y ∷ ys) (Sublistᴰ.cons-cons e h) = subst (λ (z : G). Sublistᴰ (of_station s (x ∷ xs)) (of_station s (z ∷ ys))) e (by (x.station == s) (some_of s xs ys h))
  where
    by : (b : Bool) → Sublistᴰ (of_station s xs) (of_station s ys) → Sublistᴰ (cond b (x ∷ of_station s xs) (of_station s xs)) (cond b (x ∷ of_station s ys) (of_station s ys))
    by true r = Sublistᴰ.cons-cons refl r
    by false r = r

-- those of a station are so too
pub station_are_some : (s : Station) (xs ys : List G) → Sublist xs ys → Sublist (of_station s xs) (of_station s ys)
station_are_some s xs ys h = ∥∥₁_map {B = Sublistᴰ (of_station s xs) (of_station s ys)} h (some_of s xs ys)

-- ---- a round

-- what becomes durable of the entries that were just taken
pub order_longer : (durable more : List G) (old popped : List Entry) → AreInOrder durable old → Sublist more (commands_among popped) → AreInOrder (durable ++ more) (old ++ popped)
order_longer durable more old popped h some = subst (λ l. Sublist (durable ++ more) l) (sym (commands_among-append old popped)) (Sublist.append h some)

pub none_in_order : AreInOrder [] []
none_in_order = Sublist.refl []

-- ---- one station

-- what was taken of a station holds its commands
pub among_of_station : (s : Station) (xs : List Entry) → of_station s (commands_among xs) ≡ commands_among (entries_of s xs)
among_of_station s [] = refl
among_of_station s (Submitted request ∷ xs) = by ((arc_value request.command).station == s) (among_of_station s xs)
  where
    c : G
    c = arc_value request.command

    by : (b : Bool) → of_station s (commands_among xs) ≡ commands_among (entries_of s xs)
        → cond b (c ∷ of_station s (commands_among xs)) (of_station s (commands_among xs)) ≡ commands_among (cond b (Submitted request ∷ entries_of s xs) (entries_of s xs))
    by true h = ap (λ l. c ∷ l) h
    by false h = h
among_of_station s (Ended station ∷ xs) = by (station == s) (among_of_station s xs)
  where
    by : (b : Bool) → of_station s (commands_among xs) ≡ commands_among (entries_of s xs)
        → of_station s (commands_among xs) ≡ commands_among (cond b (Ended station ∷ entries_of s xs) (entries_of s xs))
    by true h = h
    by false h = h

-- a station's durable commands are some of those that were taken of it, in order
pub station_in_order : (s : Station) (durable : List G) (taken : List Entry) → AreInOrder durable taken → Sublist (of_station s durable) (commands_among (entries_of s taken))
station_in_order s durable taken h = subst (λ l. Sublist (of_station s durable) l) (among_of_station s taken) (station_are_some s durable (commands_among taken) h)

-- and so of those that it sent, once all of these were taken
pub settled_in_order : (s : Station) (durable : List G) (taken submitted : List Entry) → AreInOrder durable taken → entries_of s taken ≡ submitted →
    Sublist (of_station s durable) (commands_among submitted)
settled_in_order s durable taken submitted h is = subst (λ l. Sublist (of_station s durable) (commands_among l)) is (station_in_order s durable taken h)
