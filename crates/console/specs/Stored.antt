-- Dialogues with a register that is kept on a disk.
use Rattle.std.specs.Prelude.{◌≡◌, ◌⊎◌, ℕ, All, false, List, ◌∷◌, ◌++◌}
use Rattle.std.specs.List.{list_any}
use Rattle.identity.specs.Numbers.{Byte}
use Rattle.centre_core.specs.Numbers.{Sequence}
use Rattle.desk.specs.declared.outage.Outage.TheVariants.{Memory, Device, Broken}
use Rattle.desk.specs.OfRegister.{of_register}
use Rattle.desk.specs.OfStore.{Stored, of_store}
use Rattle.console.specs.declared.answer.Answer.{Answer}
use Rattle.console.specs.declared.answer.Answer.TheVariants as answer
use Rattle.console.specs.Answer.{is_outage}
use Rattle.console.specs.Reading.{Speaker}
use Rattle.console.specs.Dialogue.{Dialogue}

-- The answer is `broken`, or `memory` to a command. Or it answers a line that asks the desk for nothing: a bad line, an order that is
-- forbidden, a mark, `station`, `service`, or a line that gets no answer.
abbrev pub SaysBroken : {A : Type 0} → Answer A → Type 0
SaysBroken (answer.Replied sequence reply) = ⊥
SaysBroken (answer.CommandOutage sequence word) = (word ≡ Broken) ⊎ (word ≡ Memory)
SaysBroken (answer.Queried query_answer) = ⊥
SaysBroken (answer.Listed lines) = ⊥
SaysBroken (answer.QueryOutage line word) = word ≡ Broken
SaysBroken other = Unit {0}

-- After the answer `device`, each later answer is one of `SaysBroken`.
abbrev pub BrokenAfterDevice : Type 0 → Type 0
BrokenAfterDevice A = (speaker : Speaker) (n : ℕ) (sequence : Sequence) (s t : Stored) (given : List (List Byte)) (before following : List (Answer A)) →
    Dialogue of_store speaker n s given (before ++ answer.CommandOutage sequence Device ∷ following) t → All SaysBroken following

-- The lines `done` got the answers before `device`, and made the register `made.register`. All lines, with those from `device` on, leave
-- the same register.
abbrev pub RegisterAtDevice : Type 0 → Type 0
RegisterAtDevice A = (speaker : Speaker) (n : ℕ) (sequence : Sequence) (s t : Stored) (given : List (List Byte)) (before following : List (Answer A)) →
    Dialogue of_store speaker n s given (before ++ answer.CommandOutage sequence Device ∷ following) t →
    (done : List (List Byte)) × (left : List (List Byte)) × (made : Stored)
    × (given ≡ done ++ left) × Dialogue of_store speaker n s done before made × (t.register ≡ made.register)

-- A dialogue with a register on a disk, without outage words, is also a dialogue with that register in memory.
abbrev pub StoredAsRegister : Type 0 → Type 0
StoredAsRegister A = (speaker : Speaker) (n : ℕ) (s t : Stored) (given : List (List Byte)) (answers : List (Answer A)) →
    Dialogue of_store speaker n s given answers t → list_any is_outage answers ≡ false →
    Dialogue of_register speaker n s.register given answers t.register
