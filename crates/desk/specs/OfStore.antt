-- The rules of a register that is kept on a disk. A and B are the allocators of the bits of commands and replies; nothing
-- depends on them.
use Rattle.std.specs.Prelude.{◌≡◌, ◌⊎◌, ℕ, ◌<◌, ◌-◌, ◌^◌, Bool, true, false, Result, Ok, Err, IsTrue}
use Rattle.centre_core.specs.State.{State}
use Rattle.centre_core.specs.Memory.{needs_memory}
use Rattle.centre_core.specs.Queries.{answer_to, AsksForList}
use Rattle.centre_core.specs.declared.command.Command.{Command}
use Rattle.centre_core.specs.declared.reply.Reply.{Reply}
use Rattle.centre_core.specs.declared.query.Query.{Query}
use Rattle.centre_core.specs.declared.query.QueryAnswer.{QueryAnswer}
use Rattle.desk.specs.declared.outage.Outage.{Outage}
use Rattle.desk.specs.declared.outage.Outage.TheVariants.{Memory, Device, Broken, Epochs, Closed}
use Rattle.desk.specs.Rules.{Rules}
use Rattle.desk.specs.OfRegister.{Applies}

-- what such a store is modelled as: its register, whether a failure of the disk has broken it, how often the disk has
-- failed, and whether its image has the last epoch
pub record Stored : Type 0 where
  pub register : State
  pub broken : Bool
  pub failures : ℕ
  pub last : Bool

-- the disk has failed in between, or the count of its failures is at its maximum
abbrev pub StoreHasFailed : Stored → Stored → Type 0
StoreHasFailed s t = (s.failures < t.failures) ⊎ (t.failures ≡ 2 ^ 64 - 1)

-- Why a command gets no reply: it needs memory, and memory runs out; the disk fails, which breaks the store; the store is
-- broken; or the epochs are used up. It is never closed. The register stays as it was. Where the disk failed, the command
-- may be on it all the same; opening the disk shows it.
abbrev pub Refuses : {A : Type 0} → Stored → Command A → Outage → Stored → Type 0
Refuses s c Memory t = (s.broken ≡ false) × (t.broken ≡ false) × (t.register ≡ s.register) × IsTrue (needs_memory s.register c)
Refuses s c Device t = (s.broken ≡ false) × (t.broken ≡ true) × (t.register ≡ s.register) × StoreHasFailed s t
Refuses s c Broken t = (s.broken ≡ true) × (t ≡ s)
Refuses s c Epochs t = (s.broken ≡ false) × (s.last ≡ true) × (t ≡ s)
Refuses s c Closed t = ⊥

-- a command that gets a reply is done as a register in memory does it
abbrev pub StoreApplies : {A B : Type 0} → Stored → Command A → Result (Reply B) Outage → Stored → Type 0
StoreApplies s c (Ok reply) t = (s.broken ≡ false) × (t.broken ≡ false) × Applies s.register c (Ok reply) t.register
StoreApplies s c (Err word) t = Refuses s c word t

-- no query changes anything. Only a list runs out of memory, and the disk is not read
abbrev pub StoreAnswers : {B : Type 0} → Stored → Query → Result (QueryAnswer B) Outage → Stored → Type 0
StoreAnswers s q (Ok answer) t = (s.broken ≡ false) × (t ≡ s) × (answer ≡ answer_to s.register q)
StoreAnswers s q (Err Memory) t = (s.broken ≡ false) × (t ≡ s) × AsksForList q
StoreAnswers s q (Err Broken) t = (s.broken ≡ true) × (t ≡ s)
StoreAnswers s q (Err Device) t = ⊥
StoreAnswers s q (Err Epochs) t = ⊥
StoreAnswers s q (Err Closed) t = ⊥

-- its register is listed as it is, and the disk is not read
abbrev pub StoreReads : Stored → Result State Outage → Stored → Type 0
StoreReads s (Ok r) t = (s.broken ≡ false) × (t ≡ s) × (r ≡ s.register)
StoreReads s (Err Broken) t = (s.broken ≡ true) × (t ≡ s)
StoreReads s (Err Memory) t = ⊥
StoreReads s (Err Device) t = ⊥
StoreReads s (Err Epochs) t = ⊥
StoreReads s (Err Closed) t = ⊥

-- a register on a disk that nobody else changes
abbrev pub of_store : {A : Type 0} → Rules A Stored
of_store = record { applies = StoreApplies; answers = StoreAnswers; reads = StoreReads }
