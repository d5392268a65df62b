-- Outcomes and decisions whose PDU is short.
use Rattle.std.specs.Prelude.{List}
use Rattle.std.specs.List.{AllByRecursion}
use Rattle.std.specs.declared.alloc.Global.{Global}
use Rattle.desk.specs.Replies.{HasShortPdu}
use Rattle.recovery.specs.declared.outcome.Outcome.{Outcome}
use Rattle.recovery.specs.declared.outcome.Outcome.TheVariants as outcome
use Rattle.flusher.specs.declared.decision.Decision.{Decision}
use Rattle.flusher.specs.declared.decision.Decision.TheVariants as decision

-- the PDU of the outcome's reply, if it has one, has at most 2,048 bits
abbrev pub HasShortOutcome : Outcome Global → Type 0
HasShortOutcome (outcome.Replied r) = HasShortPdu r
HasShortOutcome outcome.NoMemory = Unit {0}

-- the PDU of each of these outcomes, if it has one, has at most 2,048 bits
abbrev pub AreShort : List (Outcome Global) → Type 0
AreShort os = AllByRecursion HasShortOutcome os

-- the PDU of the reply that is decided, if it has one, has at most 2,048 bits
abbrev pub HasShortDecision : Decision → Type 0
HasShortDecision (decision.Replied r) = HasShortPdu r
HasShortDecision decision.NoMemory = Unit {0}
HasShortDecision (decision.Fault fault) = Unit {0}
