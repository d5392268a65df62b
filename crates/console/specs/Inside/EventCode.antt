-- How the logic codes a list of events.
use Rattle.std.specs.Prelude.{◌≡◌, ℕ, zero, suc, List, refl}
use Rattle.std.specs.Coded.{Coded, code_by, coded⊎, coded_list, coded_ℕ}
use mathlib.Core.Logic.{◌⊎◌, inl, inr}
use Rattle.identity.specs.Numbers.{Byte}
use Rattle.console.specs.Events.{Event, Read, ReadFailed, Answered, Wrote, WriteFailed}

-- an event by its kind: its bytes; or 0 for a failure of the reader, and 1 for one of the writer
abbrev pub Kinds : Type 0
Kinds = List Byte ⊎ (List Byte ⊎ (List Byte ⊎ ℕ))

-- what an event is by its kind
abbrev pub by_kind : Event → Kinds
by_kind (Read bytes) = inl bytes
by_kind (Answered text) = inr (inl text)
by_kind (Wrote bytes) = inr (inr (inl bytes))
by_kind ReadFailed = inr (inr (inr 0))
by_kind WriteFailed = inr (inr (inr 1))

-- the event of this kind: it undoes `by_kind`
abbrev pub event_by_kind : Kinds → Event
event_by_kind (inl bytes) = Read bytes
event_by_kind (inr (inl text)) = Answered text
event_by_kind (inr (inr (inl bytes))) = Wrote bytes
event_by_kind (inr (inr (inr zero))) = ReadFailed
event_by_kind (inr (inr (inr (suc n)))) = WriteFailed

pub same_event : (event : Event) → event_by_kind (by_kind event) ≡ event
same_event (Read bytes) = refl
same_event ReadFailed = refl
same_event (Answered text) = refl
same_event (Wrote bytes) = refl
same_event WriteFailed = refl

-- one event after another, each by its kind
abbrev pub events_code : Coded (List Event)
events_code = coded_list (code_by Kinds (coded⊎ (coded_list coded_ℕ) (coded⊎ (coded_list coded_ℕ) (coded⊎ (coded_list coded_ℕ) coded_ℕ))) by_kind event_by_kind same_event)
