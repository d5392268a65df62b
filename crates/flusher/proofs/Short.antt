-- The PDU of each reply of a commit is short, and so it is of what is decided and answered by it.
use Rattle.std.specs.Prelude.{ℕ, Option, Some, None, Result, Ok, Err, IfOk, Vec, replicate, map}
use Rattle.std.specs.Borrow.{Bor}
use Rattle.std.specs.List.{All, AllByRecursion}
use Rattle.std.specs.declared.alloc.Global.{Global}
use Rattle.std.proofs.Common.{zero, suc, ◌-◌, Bool, true, false, List, [], ◌∷◌, ◌++◌, length, take, drop, refl, sym, subst}
use Rattle.std.proofs.lemmas.List.{take-append-drop}
use Rattle.std.proofs.lemmas.List.Elements.{All-head, All-tail}
use Rattle.centre_core.specs.Asked.{Asked}
use Rattle.centre_core.specs.Ranges.{InRange}
use Rattle.centre_core.specs.State.{State}
use Rattle.centre_core.specs.StateRanges.{StateInRange}
use Rattle.centre_core.specs.Step.{step}
use Rattle.centre_core.specs.History.{next}
use Rattle.centre_core.specs.Batches.{replies}
use Rattle.centre_core.specs.declared.reply.Reply.TheVariants.{Accepted, Kept, Refused}
use Rattle.centre_core.proofs.RangeLaws.{next_is_in_range}
use Rattle.desk.proofs.ShortReplies.{replied_short}
use Rattle.recovery.specs.Outcomes.{IsAnswered, asked}
use Rattle.recovery.specs.declared.fault.StoreFault.{StoreFault}
use Rattle.recovery.specs.declared.outcome.Outcome.{Outcome}
use Rattle.recovery.specs.declared.outcome.Outcome.TheVariants as outcome
use Rattle.flusher.specs.declared.decision.Decision.{Decision}
use Rattle.flusher.specs.declared.decision.Decision.TheVariants as decision
use Rattle.flusher.specs.Short.{AreShort, HasShortDecision, HasShortOutcome}
use Rattle.flusher.specs.Stages.{decision_for_all, decision_of}
use Rattle.flusher.specs.Submitted.{HasShortAnswer, answer_by}

abbrev G : Type 0
G = Asked Global

-- ---- the outcomes of a commit

pub all_asked : (cs : List (Bor G)) → All (λ c. InRange c.now) cs → AllByRecursion InRange (asked cs)
all_asked [] all = tt
all_asked (c ∷ cs) all = (All-head (λ x. InRange x.now) c cs all, all_asked cs (All-tail (λ x. InRange x.now) c cs all))

none_short : (k : ℕ) → AreShort (replicate k outcome.NoMemory)
none_short zero = tt
none_short (suc k) = (tt, none_short k)

replies_short : (s : State) (xs ys : List G) (k : ℕ) → StateInRange s → AllByRecursion InRange (xs ++ ys) → AreShort (map outcome.Replied (replies Global s xs) ++ replicate k outcome.NoMemory)
replies_short s [] ys k is are = none_short k
replies_short s (x ∷ xs) ys k is are = (
  replied_short Global s x (step {B = Global} s x).0 (step {B = Global} s x).1 refl is,
  replies_short (next s x) xs ys k (next_is_in_range Global s x are.0 is) are.1,
)

outcomes_short : (s t : State) (cs : List G) (os : List (Outcome Global)) → StateInRange s → AllByRecursion InRange cs → IsAnswered s cs t os → AreShort os
outcomes_short s t cs os is are h =
    subst AreShort (sym h.outcomes_are) (replies_short s (take h.applied cs) (drop h.applied cs) (length cs - h.applied) is (subst (AllByRecursion InRange) (sym (take-append-drop h.applied cs)) are))

pub commit_short : (s t : State) (cs : List G) (r : Result (Vec (Outcome Global) Global) StoreFault) → StateInRange s → AllByRecursion InRange cs →
    IfOk r (λ o. IsAnswered s cs t o.items) → IfOk r (λ o. AreShort o.items)
commit_short s t cs (Ok o) is are h = outcomes_short s t cs o.items is are h
commit_short s t cs (Err e) is are h = tt

-- ---- decisions and answers

pub decided_short : (all : Bool) (o : Outcome Global) → HasShortOutcome o → HasShortDecision (decision_of all o)
decided_short true (outcome.Replied (Accepted n p)) h = h
decided_short false (outcome.Replied (Accepted n p)) h = h
decided_short all (outcome.Replied (Kept n p)) h = h
decided_short all (outcome.Replied (Refused r)) h = h
decided_short all outcome.NoMemory h = tt

pub alike_short : (fault : Option StoreFault) → HasShortDecision (decision_for_all fault)
alike_short None = tt
alike_short (Some fault) = tt

pub answer_short : (J : Type 0) (published : List G) (d : Decision) → HasShortDecision d → HasShortAnswer {J = J} (answer_by published d)
answer_short J published (decision.Replied (Accepted n p)) h = h
answer_short J published (decision.Replied (Kept n p)) h = h
answer_short J published (decision.Replied (Refused r)) h = h
answer_short J published decision.NoMemory h = tt
answer_short J published (decision.Fault f) h = tt
