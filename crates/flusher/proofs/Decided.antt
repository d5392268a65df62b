-- What may be answered by the outcomes of a commit.
use Rattle.std.specs.Prelude.{ℕ, Option, replicate, map}
use Rattle.std.specs.List.{AllByRecursion}
use Rattle.std.specs.declared.alloc.Global.{Global}
use Rattle.std.proofs.Common.{◌≡◌, zero, suc, ◌+◌, ◌-◌, ◌≤◌, inl, inr, Bool, true, false, cond, List, [], ◌∷◌, ◌++◌, length, take, drop, refl, ap, sym, ◌∙◌, subst, arith, length-append}
use Rattle.std.proofs.lemmas.List.{take-append-drop, length-take-le}
use mathlib.Core.List.{IsPrefix}
use Rattle.centre_core.specs.Asked.{Asked}
use Rattle.centre_core.specs.State.{State}
use Rattle.centre_core.specs.History.{is_acceptance, next, after}
use Rattle.centre_core.specs.Histories.{IsHistory}
use Rattle.centre_core.specs.InTurn.{reply_to, last_of, Lands, IsLeftBy}
use Rattle.centre_core.specs.Batches.{replies, taken, with_replies}
use Rattle.centre_core.specs.declared.reply.Reply.{Reply}
use Rattle.centre_core.specs.declared.reply.Reply.TheVariants.{Accepted, Kept, Refused}
use Rattle.centre_core.proofs.InTurnLaws.{after-append, history-prefix}
use Rattle.centre_core.proofs.JoinedLaws.{after_taken, left_prefix}
use Rattle.schedule.specs.Next.{answer_from, answered}
use Rattle.schedule.specs.Clauses.{IsBorneOut}
use Rattle.schedule.proofs.Stepping.{batches_borne}
use Rattle.recovery.specs.Outcomes.{IsAnswered}
use Rattle.recovery.specs.declared.outcome.Outcome.{Outcome}
use Rattle.recovery.specs.declared.outcome.Outcome.TheVariants as outcome
use Rattle.flusher.specs.Stages.{IsKeptOf, BearsOut, BearsOutDecisions, commands_of, sent_by, entries_of}
use Rattle.flusher.specs.Batches.{accepted_by}

abbrev G : Type 0
G = Asked Global

kept_in_prefix : (base : State) (published l : List G) (c : G) (n : ℕ) (p : Option (List Bool)) → IsPrefix published l → IsKeptOf base l c n p →
    n ≤ base.count + length published → IsKeptOf base published c n p
kept_in_prefix base published l c n p pre h le =
    elim h [
      | inl q ↦ inl (left_prefix base published pre.0 c.station (last_of c n p) (subst (λ m. IsLeftBy base m c.station (last_of c n p)) (sym pre.1) q) le)
      | inr q ↦ inr q
    ]

-- what all that is durable bears out, the published list does
borne_by : (base : State) (published l : List G) (all : Bool) → (all ≡ true → published ≡ l) → IsPrefix published l → IsHistory base l →
    (c : G) (r : Reply Global) → IsBorneOut base l (c, r) → BearsOut base published c (answer_from all r)
borne_by base published l true whole pre a c (Accepted n p) h = subst (λ m. Lands base m c n p) (sym (whole refl)) h
borne_by base published l false whole pre a c (Accepted n p) h = kept_in_prefix base published l c n p pre (inl (record { first = c; of_station = refl; of_sequence = refl; lands = h }))
borne_by base published l all whole pre a c (Kept n p) h = kept_in_prefix base published l c n p pre h
borne_by base published l all whole pre a c (Refused r) h = (take h.0 l, history-prefix base (take h.0 l) (drop h.0 l) (subst (IsHistory base) (sym (take-append-drop h.0 l)) a), h.2)

none_borne : (base : State) (published : List G) (all : Bool) (cs : List G) (k : ℕ) → BearsOutDecisions base published all cs (replicate k outcome.NoMemory)
none_borne base published all [] k = tt
none_borne base published all (c ∷ cs) zero = tt
none_borne base published all (c ∷ cs) (suc k) = (tt, none_borne base published all cs k)

are_borne : (base : State) (published l : List G) (all : Bool) → (all ≡ true → published ≡ l) → IsPrefix published l → IsHistory base l →
    (xs ys : List G) (s : State) (k : ℕ) → AllByRecursion (IsBorneOut base l) (with_replies Global s xs)
    → BearsOutDecisions base published all (xs ++ ys) (map outcome.Replied (replies Global s xs) ++ replicate k outcome.NoMemory)
are_borne base published l all whole pre a [] ys s k h = none_borne base published all ys k
are_borne base published l all whole pre a (x ∷ xs) ys s k h = (borne_by base published l all whole pre a x (reply_to s x) h.0, are_borne base published l all whole pre a xs ys (next s x) k h.1)

none_answered : (t : ℕ) (published : List G) (all : Bool) (cs : List G) (k : ℕ) → entries_of (sent_by t published all cs (replicate k outcome.NoMemory)) ≡ []
none_answered t published all [] k = refl
none_answered t published all (c ∷ cs) zero = refl
none_answered t published all (c ∷ cs) (suc k) = none_answered t published all cs k

-- the replies are the core's answers
entries_by : (t : ℕ) (published : List G) (all : Bool) (xs ys : List G) (s : State) (k : ℕ) →
    entries_of (sent_by t published all (xs ++ ys) (map outcome.Replied (replies Global s xs) ++ replicate k outcome.NoMemory)) ≡ answered all
    (with_replies Global s xs)
entries_by t published all [] ys s k = none_answered t published all ys k
entries_by t published all (x ∷ xs) ys s k = ap (λ es. (x, answer_from all (reply_to s x)) ∷ es) (entries_by t published all xs ys (next s x) k)

none_accepted : (cs : List G) (k : ℕ) → accepted_by cs (replicate k outcome.NoMemory) ≡ []
none_accepted [] k = refl
none_accepted (c ∷ cs) zero = refl
none_accepted (c ∷ cs) (suc k) = none_accepted cs k

-- the accepted ones are those that the core takes
pub accepted_are : (xs ys : List G) (s : State) (k : ℕ) → accepted_by (xs ++ ys) (map outcome.Replied (replies Global s xs) ++ replicate k outcome.NoMemory) ≡ taken s xs
accepted_are [] ys s k = none_accepted ys k
accepted_are (x ∷ xs) ys s k = by (reply_to s x) (accepted_are xs ys (next s x) k)
  where
    by : (r : Reply Global) → accepted_by (xs ++ ys) (map outcome.Replied (replies Global (next s x) xs) ++ replicate k outcome.NoMemory) ≡ taken (next s x) xs
        → accepted_by (x ∷ xs ++ ys) (outcome.Replied r ∷ (map outcome.Replied (replies Global (next s x) xs) ++ replicate k outcome.NoMemory)) ≡ cond
        (is_acceptance r) (x ∷ taken (next s x) xs) (taken (next s x) xs)
    by (Accepted n p) h = ap (λ l. x ∷ l) h
    by (Kept n p) h = h
    by (Refused r) h = h

length-replies : (s : State) (cs : List G) → length (map outcome.Replied (replies Global s cs)) ≡ length cs
length-replies s [] = refl
length-replies s (c ∷ cs) = ap suc (length-replies (next s c) cs)

length-replicate : {X : Type 0} (k : ℕ) (x : X) → length (replicate k x) ≡ k
length-replicate zero x = refl
length-replicate (suc k) x = ap suc (length-replicate k x)

pub commands_by : (t : ℕ) (published : List G) (all : Bool) (cs : List G) (os : List (Outcome Global)) → length os ≡ length cs → commands_of (sent_by t published all cs os) ≡ cs
commands_by t published all [] os e = refl
commands_by t published all (c ∷ cs) [] e = absurd (omega arith)
commands_by t published all (c ∷ cs) (o ∷ os) e = ap (λ l. c ∷ l) (commands_by t published all cs os (omega arith))

-- what a commit that was answered comes to, after this list
pub record Comes (base : State) (log cmds : List G) (t : State) (os : List (Outcome Global)) : Type 0 where
  pub reached : ℕ
  pub accepted : accepted_by cmds os ≡ taken (after base log) (take reached cmds)
  pub each : length os ≡ length cmds
  pub history : IsHistory base (log ++ taken (after base log) (take reached cmds))
  pub state : t ≡ after base (log ++ taken (after base log) (take reached cmds))
  pub entries : (t : ℕ) (published : List G) (all : Bool) → entries_of (sent_by t published all cmds os) ≡ answered all (with_replies Global (after base log) (take reached cmds))
  pub borne_out : (published : List G) (all : Bool) → (all ≡ true → published ≡ log ++ taken (after base log) (take reached cmds)) →
      IsPrefix published (log ++ taken (after base log) (take reached cmds)) → BearsOutDecisions base published all cmds os

pub comes : (base s t : State) (log cmds : List G) (os : List (Outcome Global)) → IsHistory base log → s ≡ after base log → IsAnswered s cmds t os → Comes base log cmds t os
comes base s t log cmds os a at h =
    let n = h.applied in
    let xs = take n cmds in
    let ys = drop n cmds in
    let b = after base log in
    let most = h.end.most in
    let parts : xs ++ ys ≡ cmds = take-append-drop n cmds in
    let is : map outcome.Replied (replies Global b xs) ++ replicate (length cmds - n) outcome.NoMemory ≡ os =
    ap (λ u. map outcome.Replied (replies Global u xs) ++ replicate (length cmds - n) outcome.NoMemory) (sym at) ∙ sym h.outcomes_are in
    let well = batches_borne base log xs a in
    let long = length-take-le n cmds most in
    let l1 = length-replies b xs in
    let no : Outcome Global = outcome.NoMemory in
    let l2 = length-replicate (length cmds - n) no in
    let l3 = length-append (map outcome.Replied (replies Global b xs)) (replicate (length cmds - n) no) in
    let l4 = ap length is in
    record {
      reached = n;
      accepted = (λ j. accepted_by (sym parts j) (sym is j)) ∙ accepted_are xs ys b (length cmds - n);
      each = omega (arith, most, long, l1, l2, l3, l4);
      history = well.0;
      state = h.state ∙ ap (λ u. after u xs) at ∙ sym (after_taken b xs) ∙ sym (after-append base log (taken b xs));
      entries = λ u published all. (λ j. entries_of (sent_by u published all (sym parts j) (sym is j))) ∙ entries_by u published all xs ys b (length cmds - n);
      borne_out = λ published all whole pre. subst (λ (q : List G × List (Outcome Global)). BearsOutDecisions base published all q.0 q.1)
          (λ j. (parts j, is j)) (are_borne base published (log ++ taken b xs) all whole pre well.0 xs ys b (length cmds - n) well.1);
    }
