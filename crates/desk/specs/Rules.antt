-- The rules of desks. A is the allocator of the bits of commands and replies; nothing depends on it.
use Rattle.std.specs.Prelude.{◌≡◌, List, [], ◌∷◌, Result}
use Rattle.centre_core.specs.State.{State}
use Rattle.centre_core.specs.declared.command.Command.{Command}
use Rattle.centre_core.specs.declared.reply.Reply.{Reply}
use Rattle.centre_core.specs.declared.query.Query.{Query}
use Rattle.centre_core.specs.declared.query.QueryAnswer.{QueryAnswer}
use Rattle.desk.specs.declared.outage.Outage.{Outage}

-- what desks of a kind, which are modelled as values of W, may do at a command and at a query, and which register they read for a
-- listing
pub record Rules (A W : Type 0) : Type 1 where
  pub applies : W → Command A → Result (Reply A) Outage → W → Type 0
  pub answers : W → Query → Result (QueryAnswer A) Outage → W → Type 0
  pub reads : W → Result State Outage → W → Type 0

-- what they may do at several commands, one after another
abbrev pub AreApplied : {A W : Type 0} → Rules A W → W → List (Command A) → List (Result (Reply A) Outage) → W → Type 0
AreApplied rules s [] [] t = t ≡ s
AreApplied rules s [] (reply ∷ replies) t = ⊥
AreApplied rules s (c ∷ commands) [] t = ⊥
AreApplied {W = W} rules s (c ∷ commands) (reply ∷ replies) t = (mid : W) × rules.applies s c reply mid × AreApplied rules mid commands replies t
