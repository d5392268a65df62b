-- What becomes of a batch of commands.
use Rattle.std.specs.Prelude.{◌≡◌, ◌⊎◌, ℕ, ◌-◌, ◌≤◌, IsTrue, List, ◌++◌, length, map, take, replicate, slice_get, Some}
use Rattle.std.specs.Borrow.{Bor}
use Rattle.identity.specs.Numbers.{Byte}
use Rattle.centre_core.specs.Asked.{Asked}
use Rattle.centre_core.specs.Same.{under}
use Rattle.centre_core.specs.State.{State}
use Rattle.centre_core.specs.Memory.{needs_memory}
use Rattle.centre_core.specs.History.{after}
use Rattle.centre_core.specs.Batches.{replies, taken}
use Rattle.recovery.specs.declared.outcome.Outcome.{Outcome}
use Rattle.recovery.specs.declared.outcome.Outcome.TheVariants.{NoMemory, Replied}
use Rattle.recovery.specs.OpensTo.{OpensTo}

-- commands that were given by reference
abbrev pub asked : {B : Type 0} → List (Bor (Asked B)) → List (Asked B)
asked commands = map (λ command. command.now) commands

module _ {B : Type 0} where
  -- so many of the commands, from the first on, were applied to the state s: to the state t, with these outcomes and accepted ones
  pub record AreApplied {C : Type 0} (s : State) (commands : List (Asked B)) (applied : ℕ) (t : State) (outcomes : List (Outcome C))
      (accepted : List (Asked B)) : Type 0 where
    pub state : t ≡ after s (take applied commands)
    pub replied : outcomes ≡ map Replied (replies C s (take applied commands))
    pub taken : accepted ≡ taken s (take applied commands)

  -- no more than so many are applied, up to the state t: there are none left, or the next one needs memory in t
  pub record IsEnd (commands : List (Asked B)) (applied : ℕ) (t : State) : Type 0 where
    pub most : applied ≤ length commands
    pub wants : (c : Asked B) → slice_get commands applied ≡ Some c → IsTrue (needs_memory t c)

  -- the state after commands that were applied in turn until memory ran out
  abbrev pub IsAfterBatch : State → List (Asked B) → State → Type 0
  IsAfterBatch s commands t = (applied : ℕ) × (t ≡ after s (take applied commands)) × IsEnd commands applied t

  -- commands that a journal under the allocator A keeps: the accepted ones of the first commands, which led from s to t
  pub record AreRecorded (A : Type 0) (s : State) (commands : List (Asked B)) (t : State) (recorded : List (Asked A)) : Type 0 where
    pub applied : ℕ
    pub state : t ≡ after s (take applied commands)
    pub these : recorded ≡ map (under A) (taken s (take applied commands))

  -- The answer to a batch: the reply to each command that was applied, and `NoMemory` for each one from the first that ran out of
  -- memory on.
  pub record IsAnswered {C : Type 0} (s : State) (commands : List (Asked B)) (t : State) (outcomes : List (Outcome C)) : Type 0 where
    pub applied : ℕ
    pub end : IsEnd commands applied t
    pub state : t ≡ after s (take applied commands)
    pub outcomes_are : outcomes ≡ map Replied (replies C s (take applied commands)) ++ replicate (length commands - applied) NoMemory

-- the image opens to one of two states
abbrev pub OpensToEither : (A : Type 0) → State → State → List (List Byte) → Type 0
OpensToEither A s t image = OpensTo A s image ⊎ OpensTo A t image
