-- What an answer bears.
use Rattle.std.specs.Prelude.{MatchBool}
use Rattle.std.specs.declared.alloc.Global.{Global}
use Rattle.std.proofs.Common.{◌≡◌, ◌+◌, ◌<◌, ◌≤◌, ◌⊎◌, inl, inr, refl, ℕ, Bool, true, false, true≢false, List, length, ap, subst, sym, ◌∙◌, arith}
use Rattle.std.proofs.lemmas.Option.{slice_get_within}
use mathlib.Core.List.{IsPrefix}
use Rattle.snapshots.proofs.Prefixes.{prefix_length}
use Rattle.centre_core.specs.Asked.{Asked}
use Rattle.centre_core.specs.State.{State}
use Rattle.centre_core.specs.declared.reply.Reply.TheVariants.{Accepted, Kept, Refused}
use Rattle.flusher.specs.declared.decision.Decision.{Decision}
use Rattle.flusher.specs.declared.decision.Decision.TheVariants as decision
use Rattle.flusher.specs.Stages.{BearsOutDecision}
use Rattle.flusher.specs.Submitted.{BearsOutAnswer, HasReached, IsAlreadyReached, answer_by, reached_by}

abbrev G : Type 0
G = Asked Global

above : (n m : ℕ) → (n ≤ m → ⊥) → m < n
above n m h = by_split split
  where
    split : (n ≤ m) ⊎ (m < n)
    split = grind arith

    by_split : (n ≤ m) ⊎ (m < n) → m < n
    by_split s = elim s [ inl q ↦ absurd (h q) | inr q ↦ q ]

pub bears_at : (J : Type 0) (base : State) (c : G) (seen : List G) (reached : ℕ) (published : List G) (s : Decision) → IsPrefix seen published →
    BearsOutDecision base published c s → (IsAlreadyReached base.count reached s → ⊥) →
    BearsOutAnswer {J = J} base c seen reached published (answer_by published s)
bears_at J base c seen reached published (decision.Replied (Accepted n p)) pre h far = (pre, above n (base.count + reached) far, h, refl)
bears_at J base c seen reached published (decision.Replied (Kept n p)) pre h far = h
bears_at J base c seen reached published (decision.Replied (Refused r)) pre h far = h
bears_at J base c seen reached published decision.NoMemory pre h far = tt
bears_at J base c seen reached published (decision.Fault f) pre h far = tt

pub bears_by : (J : Type 0) (base : State) (c c' : G) (seen : List G) (reached : ℕ) (published now : List G) (s : Decision) → c' ≡ c →
    IsPrefix seen published → now ≡ published → BearsOutDecision base published c' s → (IsAlreadyReached base.count reached s → ⊥) →
    BearsOutAnswer {J = J} base c seen reached now (answer_by published s)
bears_by J base c c' seen reached published now s same pre is h far =
    subst (λ (l : List G). BearsOutAnswer {J = J} base c seen reached l (answer_by published s)) (sym is)
    (bears_at J base c seen reached published s pre (subst (λ (x : G). BearsOutDecision base published x s) same h) far)

-- an accepted command is within the list, past all that was reached
pub reaches : (J : Type 0) (base : State) (c : G) (reached : ℕ) (published : List G) (s : Decision) → BearsOutDecision base published c s →
    (IsAlreadyReached base.count reached s → ⊥) → reached ≤ length published →
    HasReached {J = J} base reached (reached_by base.count reached s) published (answer_by published s)
reaches J base c reached published (decision.Replied (Accepted n p)) h far le =
    let past = above n (base.count + reached) far in
    let inside = slice_get_within published h.place c h.is_there in
    (omega (arith, past), omega (arith, h.numbered, inside), omega (arith, past))
reaches J base c reached published (decision.Replied (Kept n p)) h far le = (omega arith, le, tt)
reaches J base c reached published (decision.Replied (Refused r)) h far le = (omega arith, le, tt)
reaches J base c reached published decision.NoMemory h far le = (omega arith, le, tt)
reaches J base c reached published (decision.Fault f) h far le = (omega arith, le, tt)

pub reaches_by : (J : Type 0) (base : State) (c c' : G) (b reached new : ℕ) (seen published now : List G) (s : Decision) → b ≡ base.count →
    new ≡ reached_by b reached s → c' ≡ c → now ≡ published → BearsOutDecision base published c' s → (IsAlreadyReached base.count reached s → ⊥) →
    reached ≤ length seen → IsPrefix seen published →
    HasReached {J = J} base reached new now (answer_by published s)
reaches_by J base c c' b reached new seen published now s at is same shown h far le pre =
    let longer = prefix_length seen published pre in
    subst (λ (q : ℕ × List G). HasReached {J = J} base reached q.0 q.1 (answer_by published s)) (λ i. (sym (is ∙ ap (λ m. reached_by m reached s) at) i, sym shown i))
    (reaches J base c' reached published s h far (omega (arith, le, longer)))

pub when : (b : Bool) (P Q : Type 0) → MatchBool b P Q → b ≡ true → P
when true P Q h e = h
when false P Q h e = absurd (true≢false (sym e))
