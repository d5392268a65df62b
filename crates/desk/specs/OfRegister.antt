-- The rules of a register in memory. A and B are the allocators of the bits of commands and replies; nothing depends on
-- them.
use Rattle.std.specs.Prelude.{◌≡◌, Result, Ok, Err, IsTrue}
use Rattle.centre_core.specs.State.{State}
use Rattle.centre_core.specs.Step.{step}
use Rattle.centre_core.specs.Memory.{needs_memory}
use Rattle.centre_core.specs.Queries.{answer_to, AsksForList}
use Rattle.centre_core.specs.declared.command.Command.{Command}
use Rattle.centre_core.specs.declared.reply.Reply.{Reply}
use Rattle.centre_core.specs.declared.query.Query.{Query}
use Rattle.centre_core.specs.declared.query.QueryAnswer.{QueryAnswer}
use Rattle.desk.specs.declared.outage.Outage.{Outage}
use Rattle.desk.specs.declared.outage.Outage.TheVariants.{Memory}
use Rattle.desk.specs.Rules.{Rules}

-- the register does a command as `step` says. When memory runs out, and the command needs memory, it does nothing; it has
-- no other outage word
abbrev pub Applies : {A B : Type 0} → State → Command A → Result (Reply B) Outage → State → Type 0
Applies s c (Ok reply) t = (t, reply) ≡ step s c
Applies s c (Err word) t = (word ≡ Memory) × (t ≡ s) × IsTrue (needs_memory s c)

-- it answers as `answer_to` says. When memory runs out, and the answer is a list, it answers nothing
abbrev pub Answers : {B : Type 0} → State → Query → Result (QueryAnswer B) Outage → State → Type 0
Answers s q (Ok answer) t = (t ≡ s) × (answer ≡ answer_to s q)
Answers s q (Err word) t = (word ≡ Memory) × (t ≡ s) × AsksForList q

-- it is listed as it is
abbrev pub Reads : State → Result State Outage → State → Type 0
Reads s (Ok r) t = (t ≡ s) × (r ≡ s)
Reads s (Err word) t = ⊥

-- a register that nobody else changes
abbrev pub of_register : {A : Type 0} → Rules A State
of_register = record { applies = Applies; answers = Answers; reads = Reads }
