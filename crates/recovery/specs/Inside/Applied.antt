-- What applying a batch of commands to a register collects.
use Rattle.std.specs.Prelude.{◌≡◌, ◌≤◌, ◌+◌, ℕ, List, [], length}
use Rattle.std.specs.Borrow.{Bor}
use Rattle.std.specs.List.{flat_map}
use Rattle.centre_core.specs.Asked.{Asked}
use Rattle.centre_core.specs.Batches.{taken}
use Rattle.centre_core.specs.History.{after}
use Rattle.centre_core.specs.Histories.{IsHistory}
use Rattle.centre_core.specs.State.{State}
use Rattle.command_bytes.specs.Text.{command_text}
use Rattle.gated_journal.specs.Record.{given}
use Rattle.recovery.specs.Outcomes.{AreApplied, AreRecorded, IsEnd, asked}
use Rattle.recovery.specs.declared.outcome.Outcome.{Outcome}

-- the bytes of these commands
abbrev size_of : {B : Type 0} → List (Bor (Asked B)) → ℕ
size_of commands = length (flat_map (λ command. command_text command.now) commands)

-- the accepted ones of these commands, which made the state t of the state s
pub record AreAccepted {B : Type 0} (A : Type 0) (s t : State) (commands accepted : List (Bor (Asked B))) : Type 0 where
  pub history : IsHistory s (asked accepted)
  pub state : t ≡ after s (asked accepted)
  pub limits : t.registered.limits ≡ s.registered.limits
  pub count : length accepted ≤ length commands
  pub counted : t.count ≡ s.count + length accepted
  pub size : size_of accepted ≤ size_of commands
  pub none : taken s (asked commands) ≡ [] → accepted ≡ []
  pub recorded : AreRecorded A s (asked commands) t (given A accepted)

-- the first of these commands were applied: all of them, or those before one that needs memory
abbrev pub AreAppliedInPart : {B C : Type 0} → State → List (Asked B) → State → List (Outcome C) → List (Asked B) → Type 0
AreAppliedInPart s commands t outcomes accepted =
    (applied : ℕ) × AreApplied s commands applied t outcomes accepted × IsEnd commands applied t
