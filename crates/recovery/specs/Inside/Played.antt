-- Records that are read on within a half, and played as they are read.
use Rattle.std.specs.Prelude.{◌≡◌, ◌⊎◌, ◌<◌, ◌≤◌, Bool, List, [], ◌∷◌, ◌++◌, Ok, Result}
use Rattle.sector_disk.specs.Disk.{View}
use Rattle.centre_core.specs.State.{State}
use Rattle.gated_journal.specs.declared.place.Place.{Place}
use Rattle.gated_journal.specs.Half.{RecordAt, Half, with_prefix}
use Rattle.gated_journal.specs.Settled.{HasNumbersLeft, half_in}
use Rattle.recovery.specs.declared.fault.StoreFault.{StoreFault}
use Rattle.recovery.specs.Opening.{EndsAt, Fails, NeedsMemory, PlaysOn, Stops, StopsAt, rest_in}
use Rattle.recovery.specs.Opens.{Reached, held_by, played, played_from}

-- The next gate of a journal is in its half, the half is on the disk, and its commands have numbers.
pub record IsReadable (journal : Place) (disk : View) : Type 0 where
  pub before : journal.next < journal.end
  pub within : journal.end ≤ disk.sectors
  pub room : HasNumbersLeft journal

-- The new journal is of the half and form of the old one, and its next gate is in that half.
pub record MovesWithin (old new : Place) : Type 0 where
  pub first : new.first ≡ old.first
  pub end : new.end ≡ old.end
  pub next : new.next < old.end
  pub form : new.form ≡ old.form
  pub room : HasNumbersLeft new

-- The new journal is within the old one's half (`MovesWithin`), and the states s and t have the same limits.
pub record PlaysWithin (old new : Place) (s t : State) : Type 0 where
  pub journal : MovesWithin old new
  pub limits : t.registered.limits ≡ s.registered.limits

module _ {A : Type 0} where
  -- half is some records, which are played from s to t, and then rest
  abbrev pub HasPlayed : State → State → Half A → Half A → Type 0
  HasPlayed s t half rest = (entries : List (RecordAt A)) × (half ≡ with_prefix entries rest) × (played s entries ≡ Ok t)

  -- Half is some records that are played from s on, then one that memory ran out for, and then more. Either that one could not
  -- be read: then `Again` holds, rest begins with it, and none of its commands is applied. Or its commands up to t are applied,
  -- the next one needs memory, and rest is what comes after the record.
  pub record RunsShort (s t : State) (half rest : Half A) (Again : Type 0) : Type 0 where
    pub done : List (RecordAt A)
    pub next : RecordAt A
    pub after : Half A
    pub state : State
    pub all : half ≡ with_prefix (done ++ next ∷ []) after
    pub accepted : played s done ≡ Ok state
    pub stops : (Again × (rest ≡ with_prefix (next ∷ []) after) × (t ≡ state)) ⊎ ((rest ≡ after) × NeedsMemory state next.1 t)

-- The records from the next gate of a place on, as the disk reads, are played from one state to another, as far as a new place.
module _ (A : Type 0) (old new : Place) (s t : State) (disk : View) where
  -- one record more is played, or there is none, or a fault is met
  abbrev pub PlaysOne : Result Bool StoreFault → Type 0
  PlaysOne result = PlaysOn result t new.next (rest_in A new old.end disk) (played_from s (half_in A old disk))

  -- the records before the new place are played, from s to t
  abbrev pub HasMovedOn : Type 0
  HasMovedOn = HasPlayed s t (half_in A old disk) (rest_in A new old.end disk)

  -- memory ran out for the record at the new place, and then `Again` holds, or for a command of the record before that place
  abbrev pub HasRunShort : Type 0 → Type 0
  HasRunShort Again = RunsShort s t (half_in A old disk) (rest_in A new old.end disk) Again

  -- all records are played, or a fault is met before the rest of the half
  abbrev pub PlaysAll : Result Unit StoreFault → Type 0
  PlaysAll result = StopsAt result t new.next (rest_in A new old.end disk) (played_from s (half_in A old disk))

  -- all records are played, or the first fault of the half is reported
  abbrev pub PlaysHalf : Result Unit StoreFault → Type 0
  PlaysHalf result = EndsAt (λ done. new.next) result t (played_from s (half_in A old disk))

-- the fault that is reported is the first one: that of the records from the next gate on, or else this one
abbrev pub ReportsFirst : Type 0 → Place → View → StoreFault → StoreFault → Type 0
ReportsFirst A journal disk fault reported = (is : Result Reached StoreFault) → Stops fault (held_by (half_in A journal disk)) is → Fails reported is
