-- What stays on the disk from a moment on, and that each answer was durable before it was sent.
use Rattle.std.specs.Prelude.{◌≡◌, ◌⊎◌, ◌≤◌, ℕ, true, List, ◌++◌, Some, slice_get, take}
use Rattle.std.specs.List.{AllByRecursion}
use Rattle.std.specs.declared.alloc.Global.{Global}
use mathlib.Core.List.{IsPrefix}
use Rattle.identity.specs.Numbers.{Byte}
use Rattle.sector_disk.specs.Numbers.{Tick}
use Rattle.sector_disk.specs.Disk.{View}
use Rattle.centre_core.specs.Asked.{Asked}
use Rattle.centre_core.specs.State.{State}
use Rattle.centre_core.specs.History.{after}
use Rattle.recovery.specs.OpensTo.{OpensTo}
use Rattle.answers.specs.declared.channel.AnswerSender.{AnswerSender}
use Rattle.answers.specs.Views.{sent_of}
use Rattle.flusher.specs.Borne.{IsBorneAt}
use Rattle.flusher.specs.Stages.{Sent}
use Rattle.flusher.specs.Stored.{AreUnderWay}
use Rattle.flusher.specs.View.{FlusherView}

-- The image opens to these commands, or to more of the durable ones. If the disk has failed, it may also open to the durable ones and
-- further commands that were under way.
abbrev pub OpensFrom : {D : Type 0} → State → List (Asked Global) → FlusherView D → List (List Byte) → Type 0
OpensFrom base least f image =
    ((list : List (Asked Global)) × IsPrefix least list × IsPrefix list f.durable × OpensTo Global (after base list) image)
    ⊎ ((more : List (Asked Global)) × (f.store.broken ≡ true) × AreUnderWay base f more × OpensTo Global (after base (f.durable ++ more)) image)

-- a stop at any moment from t on leaves an image that opens to these commands, or to more
pub record IsKeptSince {D : Type 0} (view : D → View) (base : State) (f : FlusherView D) (t : Tick) (least : List (Asked Global)) : Type 0 where
  pub durable : IsPrefix least f.durable
  pub earlier : t ≤ (view f.store.disk).moment
  pub since : (image : List (List Byte)) → (view f.store.disk).since t image → OpensFrom base least f image

-- An answer was durable before it was sent: a prefix of the durable commands bears it out, and a stop at any moment since it was sent leaves an
-- image that opens to that prefix, or to more.
abbrev pub WasDurable : {D : Type 0} → (D → View) → State → FlusherView D → Sent → Type 0
WasDurable view base f x = (place : ℕ) × IsBorneAt base f.durable place x × IsKeptSince view base f x.moment (take place f.durable)

-- each answer that these channels were sent was durable before it was sent
abbrev pub AreAllDurable : {D : Type 0} → (D → View) → State → FlusherView D → List (AnswerSender Sent) → Type 0
AreAllDurable view base f senders = (k : ℕ) (a : AnswerSender Sent) → slice_get senders k ≡ Some a → AllByRecursion (WasDurable view base f) (sent_of a.pass)
