-- The rule of the queue.
use Rattle.std.specs.Prelude.{◌≡◌, ◌⊎◌, ℕ, ◌+◌, ◌<◌, ◌≤◌, true, false, List, [], ◌∷◌, ◌++◌, length, Option, Some, None, All}
use mathlib.Core.Option.{some}
use lib.ListN.{get_elem?}
use Rattle.registration.specs.Numbers.{Station}
use Rattle.station_queue.specs.declared.entry.Entry.{Entry}
use Rattle.station_queue.specs.declared.rule.Settled.{Settled}
use Rattle.station_queue.specs.declared.rule.QueueView.{QueueView}
use Rattle.station_queue.specs.Entries.{entries_of}

-- what a sender that came back has sent
abbrev pub settled : Station → List Entry → Settled
settled station sent = record { station = station; sent = sent }

-- what the taker knows
abbrev pub taker : ℕ → List Entry → List Settled → ℕ → QueueView
taker made taken settled places = record { takes = true; made = made; taken = taken; settled = settled; sends = false; station = 0; sent = []; places = places }

-- the taker still knows the same, but for its places
abbrev pub IsSameTaker : QueueView → QueueView → Type 0
IsSameTaker v w = (w.takes ≡ true) × (w.made ≡ v.made) × (w.taken ≡ v.taken) × (w.settled ≡ v.settled)

-- what a sender knows
abbrev pub sender : Station → List Entry → ℕ → QueueView
sender station sent places = record { takes = false; made = 0; taken = []; settled = []; sends = true; station = station; sent = sent; places = places }

-- a pass that has this many places of the queue, and may neither take nor send
abbrev pub holder : ℕ → QueueView
holder places = record { takes = false; made = 0; taken = []; settled = []; sends = false; station = 0; sent = []; places = places }

-- a pass that came back to another one: it may do nothing more
abbrev pub nobody : QueueView
nobody = holder 0

-- one place of the queue
abbrev pub place : QueueView
place = holder 1

-- how many places of the queue these have
abbrev pub places_of : List QueueView → ℕ
places_of [] = 0
places_of (v ∷ views) = v.places + places_of views

-- Each entry in the queue has a place there. With the places of all passes these are no more than the queue has. So a pass that has a place never
-- finds the queue full.
abbrev pub HaveRoom : List Entry → List QueueView → Type 0
HaveRoom items views = length items + places_of views ≤ 64

-- of each of these stations, what was taken, followed by what the queue holds, is what it sent
abbrev pub AreAllSent : List Entry → List Entry → List Settled → Type 0
AreAllSent taken items stations = All (λ s. entries_of s.station (taken ++ items) ≡ s.sent) stations

-- What the rule says of one pass. reader: the taker's pass; seat: the pass of each station's sender;
-- made: how many senders there are; all: what was taken, followed by what the queue holds.
module _ (reader : ℕ) (seat : Station → Option ℕ) (made : ℕ) (taken all : List Entry) where
  -- a pass that takes is the taker's, and has what was taken and how many senders there are
  abbrev pub FitsTaker : ℕ → QueueView → Type 0
  FitsTaker pass v = v.takes ≡ true → (pass ≡ reader) × (v.taken ≡ taken) × (v.made ≡ made)

  -- a sender that came back sends no more
  abbrev pub FitsSettled : Settled → Type 0
  FitsSettled s = (seat s.station ≡ None) × (s.station ≤ made) × (entries_of s.station all ≡ s.sent)

  -- a pass that sends is its station's, and has what that station sent
  abbrev pub FitsSender : ℕ → QueueView → Type 0
  FitsSender pass v = v.sends ≡ true → (seat v.station ≡ Some pass) × (v.station ≤ made) × (entries_of v.station all ≡ v.sent) × (0 < v.station)

  -- all three
  abbrev pub Fits : ℕ → QueueView → Type 0
  Fits pass v = FitsTaker pass v × All FitsSettled v.settled × FitsSender pass v

-- What was taken of a station, followed by what the queue holds of it, is what the station's pass has as sent. A station without a sender sent nothing.
-- There is a place for each entry.
abbrev pub IsInOrder : List Entry → List QueueView → Type 0
IsInOrder items views =
    (reader : ℕ) × (seat : Station → Option ℕ) × (made : ℕ) × (taken : List Entry)
    × ((s : Station) → (made < s) ⊎ (s ≡ 0) → entries_of s (taken ++ items) ≡ [])
    × ((pass : ℕ) (v : QueueView) → get_elem? views pass ≡ some v → Fits reader seat made taken (taken ++ items) pass v)
    × HaveRoom items views
